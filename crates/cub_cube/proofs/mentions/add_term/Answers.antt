use Rattle.std.proofs.Common.{◌≡◌, ℕ, ◌<◌, ◌≤◌, length, get_or, refl, subst, ◌∙◌}
use Rattle.std.specs.declared.cmp.Ordering.TheVariants.{Greater}
use Rattle.cub_proto.specs.Order.{term_cmp}
use Rattle.cub_cube.proofs.Terms.{term_there, term_absent}
use Rattle.cub_cube.proofs.mentions.add_term.Goals as goal

pub returns-then-stands_at : goal.returns-then-stands_at
returns-then-stands_at c =
    term_there c.args.terms.now.items c.args.term c.place_of-place.result
    (subst (λ us. c.place_of-place.result < length us) c.as_slice-2.ensures.value (c.if-stands_at.ensures.there refl))
    (subst (λ us. (k : ℕ) → k < c.place_of-place.result → term_cmp c.args.term (get_or us k c.args.term) ≡ Greater) c.as_slice.ensures.value c.place_of-place.ensures.before)
    (subst (λ us. get_or us c.place_of-place.result c.args.term ≡ c.args.term) c.as_slice-2.ensures.value (c.if-stands_at.ensures.same refl))

pub returns : goal.returns
returns c =
    c.in_ok-insert.ensures.items ∙
    term_absent c.args.terms.now.items c.args.term c.place_of-place.result
    (subst (λ us. c.place_of-place.result ≤ length us) c.as_slice.ensures.value c.place_of-place.ensures.within)
    (subst (λ us. (k : ℕ) → k < c.place_of-place.result → term_cmp c.args.term (get_or us k c.args.term) ≡ Greater) c.as_slice.ensures.value c.place_of-place.ensures.before)
    (subst (λ us. c.place_of-place.result < length us → term_cmp c.args.term (get_or us c.place_of-place.result c.args.term) ≡ Greater → ⊥) c.as_slice.ensures.value c.place_of-place.ensures.at)
    (subst (λ us. c.place_of-place.result < length us → get_or us c.place_of-place.result c.args.term ≡ c.args.term → ⊥) c.as_slice-2.ensures.value (c.if-stands_at.ensures.other refl))
