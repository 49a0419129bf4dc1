-- A negative number over another: the chain of operations by `Held`, then the sign.
use Prim.Native.Nat.{ℕ, suc, ◌+◌, ◌-◌, ◌/◌, ◌<◌}
use mathlib.Core.Path.{◌≡◌, refl, sym, ap, ◌∙◌, subst}
use mathlib.Core.Bool.{true}
use native.Mathlib.Nat.{zero-add}
use native.Mathlib.Omega.{arith}
use borrow.Author.Tests.{ltb-true, le-ltb}
use lib.Dec.{leb→le}
use lib.IntN.{ℤ, pos, negsuc, neg_ℤ, ◌+ℤ◌, ◌-ℤ◌, nat_abs, +ℤ_idl}
use lib.Signed.{lt_z, quot_z, ◌≤ℤ◌}
use mir.Syntax.{w64}
use mir.Val.{of_z}
use Rattle.raster_edge.specs.Edge.{away_div}
use Rattle.raster_edge.proofs.Held.{Held, held, lit, add, sub, quot, lt_is}
use Rattle.raster_edge.proofs.away.Goals as goal

as_pos : (d : ℤ) → pos 1 ≤ℤ d → (d ≡ pos (nat_abs d)) × (0 < nat_abs d)
as_pos (pos d) h = (refl, leb→le 1 d h.le)
as_pos (negsuc d) h = absurd h.le

less_one : (n : ℕ) → 0 < n → pos n -ℤ pos 1 ≡ pos (n - 1)
less_one n h = rw (le-ltb n 1 h)

below : (z : ℤ) (d : ℕ) → 0 < d → lt_z z (pos 0) ≡ true → pos 0 -ℤ quot_z (pos 0 -ℤ z +ℤ pos d -ℤ pos 1) (pos d) ≡ away_div z d
below (pos a) d h t = absurd (omega (arith, ltb-true a 0 t))
below (negsuc a) d h t =
    ap (λ (n : ℕ). pos 0 -ℤ quot_z (pos (n + d) -ℤ pos 1) (pos d)) (zero-add (suc a))
    ∙ ap (λ (y : ℤ). pos 0 -ℤ quot_z y (pos d)) (less_one (suc a + d) (omega arith)) ∙ +ℤ_idl (neg_ℤ (pos ((suc a + d - 1) / d)))

pub returns-then-num-lt0 : goal.returns-then-num-lt0
returns-then-num-lt0 c =
    let num = held {B = 1099511627776} c.ranges.num (omega arith) in
    let sign = as_pos c.args.den c.requires.2 in
    let den = subst (λ (z : ℤ). Held (of_z w64 c.args.den) z 1099511627776) sign.0 (held c.ranges.den (omega arith)) in
    (sub (lit 0 tt) (quot (sub (add (sub (lit 0 tt) num tt) den tt) (lit 1 tt) tt) den sign.1 tt) tt).read
    ∙ below c.args.num (nat_abs c.args.den) sign.1 (sym (lt_is num (lit 0 tt)) ∙ c.if-num-lt0.true)
