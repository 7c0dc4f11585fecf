-- `codes::decode::fit_number` meets its contract: a number that was decoded is normalized, and a refusal is returned as it is.
use mathlib.Core.Path.{◌≡◌, refl, sym, ap, ◌∙◌}
use mathlib.Core.Bool.{true}
use native.Mathlib.Omega.{arith}
use Rattle.std.specs.Prelude.{Ok, Err}
use Rattle.std.specs.declared.result.Result.{Result}
use Rattle.refusals.specs.Row.{row_number}
use Rattle.refusals.specs.declared.Refusal.{Refusal}
use Rattle.numbers.specs.Answer.{given, answer_outcome}
use Rattle.numbers.specs.declared.number.Number.{Number}
use Rattle.numbers.proofs.Laws.Bias.{between}
use Rattle.codes.specs.Codes.{counted, decoded, judged_code, number_of}
use Rattle.codes.specs.Layout.{IsFormat, IsCode, is_normalizable}
use Rattle.codes.specs.declared.code.Code.{Code}
use Rattle.codes.specs.declared.code.Format.{Format}
use Rattle.codes.proofs.Laws.Places.{counted_is}
use Rattle.codes.proofs.Laws.Parts.{split_code, judged_given, judged_refused}
use Rattle.codes.proofs.decode.fit_number.Goals as goal

-- a refusal does not depend on the number
refused_code : (f : Format) (c : Code) (x y : Number) (r : Result Number Refusal) → ((z : Number) → r ≡ Ok z → ⊥) → answer_outcome r ≡ judged_code f c x → answer_outcome r ≡ judged_code f c y
unfolding answer_outcome
refused_code f c x y (Ok z) other h = absurd (other z refl)
refused_code f c x y (Err refusal) other h = sym (judged_refused f c x y (row_number refusal) (sym h))

-- and a number given is the one that was judged
given_code : (f : Format) (c : Code) (x y : Number) (r : Result Number Refusal) → r ≡ Ok x → answer_outcome r ≡ judged_code f c y → (x ≡ y) × ((z : Number) → judged_code f c z ≡ given z)
unfolding answer_outcome judged_code
given_code f c x y r is h = let judged = judged_given f c x y (sym h ∙ ap answer_outcome is) in (sym judged.2, λ (z : Number). rw (judged.0, judged.1))

-- the exponents of a format leave room below for a shift
decoded_normalizable : (f : Format) (c : Code) (x : Number) → IsFormat f → IsCode f c → x ≡ decoded f c → is_normalizable x ≡ true
unfolding is_normalizable decoded
decoded_normalizable f c x formed fits is =
    let counted-c = counted_is c.field in
    rw is (between 65472 65536 (counted c.field) f.bias (omega (arith, formed.small_bias)) (omega (arith, formed.fields, fits.field_fits)))

pub returns-in_default : goal.returns-in_default
unfolding number_of
returns-in_default g c = refused_code _ _ _ _ _ c.in_default.not-Ok c.decode-found.ensures

pub normalize-requires : goal.normalize-requires
normalize-requires g c =
    decoded_normalizable _ _ _ g.met.F.Layout.formed (split_code _ _ g.met.F.Layout.formed) (given_code _ _ _ _ _ c.in-Ok.is c.decode-found.ensures).0

pub returns : goal.returns
unfolding answer_outcome number_of
returns g c =
    let found = given_code _ _ _ _ _ c.in-Ok.is c.decode-found.ensures in
    rw (← found.0, ← c.normalize.ensures) (sym (found.1 _))
