use Rattle.std.proofs.Common.{subst, sym, length, ◌≤◌, ◌∙◌}
use Rattle.cub_names.proofs.Empty.{few_types}
use Rattle.cub_names.proofs.DeclaredFit.{parts_along}
use Rattle.cub_names.proofs.values.base_of.Goals as goal

pub decls_of-requires : goal.decls_of-requires
decls_of-requires c = subst (λ types. length types ≤ 256) (sym c.requires.types) (few_types c.args.text.now c.args.decls.now c.requires.none)

pub decls_of-requires-2 : goal.decls_of-requires-2
decls_of-requires-2 c = subst (λ types. length types ≤ 256) (sym c.requires.types) (few_types c.args.text.now c.args.decls.now c.requires.none)

pub protocol_of-requires : goal.protocol_of-requires
protocol_of-requires c =
    parts_along c.args.text.now c.args.decls.now c.requires.types c.requires.none c.in_ok-sorts.ensures (c.as_slice.ensures.value ∙ c.in_ok-named.ensures) c.in_ok-globals.ensures (c.as_slice-2.ensures.value ∙ c.in_ok-celled.ensures) c.in_ok-arrays.ensures
