-- The number of processes that values need.
use Rattle.std.proofs.Common.{◌≡◌, ℕ, zero, suc, ◌+◌, ◌<◌, ◌≤◌, Bool, true, false, cond, List, [], ◌∷◌, Some, sym, ap, subst, arith, max}
use Rattle.cub_proto.specs.declared.literal.Sort.{Sort}
use Rattle.cub_proto.specs.declared.literal.PSide.{PSide}
use Rattle.cub_proto.specs.declared.protocol.Decl.{Decl}
use Rattle.cub_proto.specs.declared.protocol.Protocol.{Protocol}
use Rattle.cub_proto.specs.Signature.{declared_sort, same_sort}
use Rattle.theory_laws.specs.Built.{Values}
use Rattle.theory_laws.specs.Chosen.{needed_from, needed}

needed_more : (v : Values) (so_far g : ℕ) (ds : List Decl) → so_far ≤ needed_from v so_far g ds
needed_more v so_far g [] = omega arith
needed_more v so_far g (d ∷ ds) = by (same_sort d.sort Sort.Proc) (λ next. needed_more v next (suc g) ds)
  where
    by : (b : Bool) → ((next : ℕ) → next ≤ needed_from v next (suc g) ds)
        → so_far ≤ needed_from v (cond b (max so_far (suc (v.process (PSide.Global g)))) so_far) (suc g) ds
    by true rest = omega (arith, rest (max so_far (suc (v.process (PSide.Global g)))))
    by false rest = rest so_far

needed_each : (v : Values) (so_far g i : ℕ) (ds : List Decl) → declared_sort ds i ≡ Some Sort.Proc → v.process (PSide.Global (g + i)) < needed_from v so_far g ds
needed_each v so_far g i [] is = cc
needed_each v so_far g zero (d ∷ ds) is =
    let same : d.sort ≡ Sort.Proc = cc in
    let on : same_sort d.sort Sort.Proc ≡ true = ap (λ x. same_sort x Sort.Proc) same in
    let at : g + 0 ≡ g = omega arith in
    let rest = needed_more v (max so_far (suc (v.process (PSide.Global g)))) (suc g) ds in
    subst (λ b. v.process (PSide.Global (g + 0)) < needed_from v (cond b (max so_far (suc (v.process (PSide.Global g)))) so_far) (suc g) ds) (sym on)
    (subst (λ x. v.process (PSide.Global x) < needed_from v (max so_far (suc (v.process (PSide.Global g)))) (suc g) ds) (sym at) (omega (arith, rest)))
needed_each v so_far g (suc i) (d ∷ ds) is =
    let at : suc g + i ≡ g + suc i = omega arith in
    subst (λ x. v.process (PSide.Global x) < needed_from v so_far g (d ∷ ds)) at
    (needed_each v (cond (same_sort d.sort Sort.Proc) (max so_far (suc (v.process (PSide.Global g)))) so_far) (suc g) i ds is)

pub needed_room : (p : Protocol) (width : ℕ) (v : Values) → width ≤ needed p width v
needed_room p width v = let most = needed_more v (max width 1) 0 p.globals in omega (arith, most)

pub needed_some : (p : Protocol) (width : ℕ) (v : Values) → 0 < needed p width v
needed_some p width v = let most = needed_more v (max width 1) 0 p.globals in omega (arith, most)

pub needed_above : (p : Protocol) (width : ℕ) (v : Values) (g : ℕ) → declared_sort p.globals g ≡ Some Sort.Proc → v.process (PSide.Global g) < needed p width v
needed_above p width v g is =
    let at : 0 + g ≡ g = omega arith in
    subst (λ x. v.process (PSide.Global x) < needed p width v) at (needed_each v (max width 1) 0 g p.globals is)
