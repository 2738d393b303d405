use Rattle.std.proofs.Common.{◌∙◌, true, ap, ap₂}
use Rattle.std.proofs.lemmas.Result.{IfOk-weaker}
use Rattle.clap.specs.Simple.{App, app_of_fields, with_rule}
use Rattle.clap.specs.declared.builder.command.Command.{Command}
use Rattle.word_parser.proofs.line.line.Goals as goal

pub returns : goal.returns
returns c =
    let plain = ap app_of_fields c.no_binary_name.ensures ∙ ap (λ (a : App). record a { top = record a.top { no_binary_name = true } }) c.new.ensures.app in
    let bare = ap app_of_fields c.disable_help_flag.ensures ∙ ap (λ (a : App). record a { top = record a.top { disable_help_flag = true } }) plain in
    let one = c.in_ok-arg.ensures.shape c.name_arg.ensures.local ∙ ap₂ with_rule bare c.name_arg.ensures.rule in
    let two = c.in_ok-arg-2.ensures.shape c.name_arg-2.ensures.local ∙ ap₂ with_rule one c.name_arg-2.ensures.rule in
    let three = c.in_ok-arg-3.ensures.shape c.name_arg-3.ensures.local ∙ ap₂ with_rule two c.name_arg-3.ensures.rule in
    let four = c.in_ok-arg-4.ensures.shape c.option_arg.ensures.local ∙ ap₂ with_rule three c.option_arg.ensures.rule in
    let five = c.in_ok-arg-5.ensures.shape c.option_arg-2.ensures.local ∙ ap₂ with_rule four c.option_arg-2.ensures.rule in
    let six = c.in_ok-arg-6.ensures.shape c.option_arg-3.ensures.local ∙ ap₂ with_rule five c.option_arg-3.ensures.rule in
    IfOk-weaker c.arg-7.result _ _ (λ (command : Command) h. h.shape c.option_arg-4.ensures.local ∙ ap₂ with_rule six c.option_arg-4.ensures.rule) c.arg-7.ensures
