-- What std's methods say of a float is what the definitions say, and floats that are equal are no NaN. Assumes nothing.
use mathlib.Core.Path.{◌≡◌, refl, sym}
use mathlib.Core.Bool.{true, true≢false}
use lib.Ieee.{Float, nan, inf, fin, eq, is_nan}
use Rattle.std.specs.Float.{NotNan, float_is_finite, is_sign_negative}
use Rattle.num_float.specs.Color.{is_finite, negative}

pub finite_same : (x : Float) → float_is_finite x ≡ is_finite x
unfolding float_is_finite
finite_same nan = refl
finite_same (inf s) = refl
finite_same (fin s m e) = refl

pub sign_same : (x : Float) → is_sign_negative x ≡ negative x
unfolding is_sign_negative
sign_same nan = refl
sign_same (inf s) = refl
sign_same (fin s m e) = refl

pub equal_left : (a b : Float) → eq a b ≡ true → NotNan a
unfolding eq is_nan
equal_left nan b h = absurd (true≢false (sym h))
equal_left (inf s) b h = tt
equal_left (fin s m e) b h = tt

pub equal_right : (a b : Float) → eq a b ≡ true → NotNan b
unfolding eq is_nan
equal_right nan b h = absurd (true≢false (sym h))
equal_right (inf s) nan h = absurd (true≢false (sym h))
equal_right (inf s) (inf t) h = tt
equal_right (inf s) (fin t n d) h = tt
equal_right (fin s m e) nan h = absurd (true≢false (sym h))
equal_right (fin s m e) (inf t) h = tt
equal_right (fin s m e) (fin t n d) h = tt
