use Rattle.std.proofs.Common.{◌≡◌, ◌++◌, ◌∷◌, [], ◌/◌, ◌∙◌, ℕ, List, length, take, sym, ap, subst}
use Rattle.cover_index.specs.Asked.{summary_at, Joins}
use Rattle.cover_index.specs.Indexed.{Indexed, IsServing}
use Rattle.cover_index.specs.Stored.{Stored}
use Rattle.cover_index.proofs.Serving.{kept_serves, push_serves, taken}
use Rattle.cover_index.proofs.index.IndexFinderScratch.push.Goals as goal

pub returns-in-Err-clause-serves : goal.returns-in-Err-clause-serves
returns-in-Err-clause-serves c =
    let p = c.args.protocol.now in
    let s : Indexed = record { cubes = c.self.inside.store.cubes; retired = c.self.inside.retired.items; summaries = c.self.inside.store.summaries; groups = c.self.inside.groups.items; larger = c.self.inside.larger.items; met = c.self.inside.met } in
    let same : c.args.self.now ≡ s = sym c.self.view_is in
    let g = c.note.new.groups.items in
    let l = c.note.new.larger.items in
    let kept = kept_serves p s g l (subst (λ (x : Indexed). IsServing p x) same c.requires.serves) c.self.invariant.3 c.self.invariant.4 c.note.ensures.groups_kept c.note.ensures.larger_kept in
    subst (λ (rs : List ℕ). IsServing p (record { cubes = s.cubes; retired = rs; summaries = s.summaries; groups = g; larger = l; met = s.met })) (sym c.in-Err.ensures.retired_err) kept

pub returns-in-Ok-push-clause-serves : goal.returns-in-Ok-push-clause-serves
returns-in-Ok-push-clause-serves c =
    let p = c.args.protocol.now in
    let s : Indexed = record { cubes = c.self.inside.store.cubes; retired = c.self.inside.retired.items; summaries = c.self.inside.store.summaries; groups = c.self.inside.groups.items; larger = c.self.inside.larger.items; met = c.self.inside.met } in
    let same : c.args.self.now ≡ s = sym c.self.view_is in
    let g = c.note.new.groups.items in
    let l = c.note.new.larger.items in
    let own = c.of-own.result in
    let pushed = push_serves p s g l (subst (λ (x : Indexed). IsServing p x) same c.requires.serves) c.self.invariant.3 c.self.invariant.4 c.note.ensures.groups_kept c.note.ensures.larger_kept
    c.args.cube own c.self.invariant.0 c.self.invariant.1 c.self.invariant.5 c.requires.fit c.of-own.ensures.value c.of-own.ensures.own
    (subst (λ (n : ℕ). Joins own (summary_at g (n / 64))) c.count-number.ensures.value c.in-Ok.ensures.groups_joined)
    (subst (λ (n : ℕ). Joins own (summary_at l (n / 4096))) c.count-number.ensures.value c.in-Ok.ensures.larger_joined) in
    subst (λ (x : Stored). IsServing p (record { cubes = x.cubes; retired = c.note.new.retired.items; summaries = x.summaries; groups = g; larger = l; met = s.met })) (sym c.in-Ok-push.ensures.ok)
    (subst (λ (rs : List ℕ). IsServing p (record { cubes = s.cubes ++ c.args.cube ∷ []; retired = rs; summaries = s.summaries ++ own ∷ []; groups = g; larger = l; met = s.met })) (sym c.in-Ok.ensures.retired_ok) pushed)

pub returns-in-Err-push-clause-serves : goal.returns-in-Err-push-clause-serves
returns-in-Err-push-clause-serves c =
    let p = c.args.protocol.now in
    let s : Indexed = record { cubes = c.self.inside.store.cubes; retired = c.self.inside.retired.items; summaries = c.self.inside.store.summaries; groups = c.self.inside.groups.items; larger = c.self.inside.larger.items; met = c.self.inside.met } in
    let same : c.args.self.now ≡ s = sym c.self.view_is in
    let g = c.note.new.groups.items in
    let l = c.note.new.larger.items in
    let kept = kept_serves p s g l (subst (λ (x : Indexed). IsServing p x) same c.requires.serves) c.self.invariant.3 c.self.invariant.4 c.note.ensures.groups_kept c.note.ensures.larger_kept in
    let number : length s.cubes ≡ c.count-number.result = sym c.count-number.ensures.value in
    let retired : c.truncate.new.self.items ≡ s.retired =
    c.truncate.ensures.items ∙ ap (λ (xs : List ℕ). take c.count-number.result xs) c.in-Ok.ensures.retired_ok ∙ taken s.retired 0 c.count-number.result (c.self.invariant.0 ∙ number) in
    subst (λ (x : Stored). IsServing p (record { cubes = x.cubes; retired = c.truncate.new.self.items; summaries = x.summaries; groups = g; larger = l; met = s.met })) (sym c.in-Err-push.ensures.err)
    (subst (λ (rs : List ℕ). IsServing p (record { cubes = s.cubes; retired = rs; summaries = s.summaries; groups = g; larger = l; met = s.met })) (sym retired) kept)
