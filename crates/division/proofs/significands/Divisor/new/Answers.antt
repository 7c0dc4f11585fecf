-- `division::significands::Divisor::new` meets its contract: the seed is near, and each step is nearer (Laws.DigitWords).
use Rattle.std.proofs.Common.{◌≡◌, ℕ, ◌*◌, ◌^◌, ap, ◌∙◌}
use Rattle.division.specs.Words.{IsSignificand, refined_word, HasProducts, IsReciprocalWord}
use Rattle.division.proofs.Laws.Seeds.{entry_for}
use Rattle.division.proofs.Laws.DigitWords.{rounded_up, seed_near, products, next, reciprocal_word}
use Rattle.division.proofs.significands.Divisor.new.Goals as goal

module _ (D T : ℕ) (d : IsSignificand D) (entry : T ≡ entry_for D) where
  first : HasProducts (rounded_up D) (T * 2 ^ 24)
  first = rw entry (products D d (entry_for D * 2 ^ 24) (seed_near D d))

  second : (x : ℕ) → x ≡ refined_word (rounded_up D) (T * 2 ^ 24) → HasProducts (rounded_up D) x
  second x e = rw (e, entry) (products D d (refined_word (rounded_up D) (entry_for D * 2 ^ 24)) (next D d (entry_for D * 2 ^ 24) (seed_near D d)))

  twice : (x y : ℕ) → x ≡ refined_word (rounded_up D) (T * 2 ^ 24) → y ≡ refined_word (rounded_up D) x → IsReciprocalWord D y
  twice x y e f = rw (f, e) (reciprocal_word D d (T * 2 ^ 24) (ap (λ (n : ℕ). n * 2 ^ 24) entry))

pub refined-once-requires : goal.refined-once-requires
refined-once-requires c = first _ _ c.args.d.in_range (c.from-seed.ensures ∙ c.entry_for.ensures)

pub refined-requires : goal.refined-requires
refined-requires c = second _ _ c.args.d.in_range (c.from-seed.ensures ∙ c.entry_for.ensures) _ c.refined-once.ensures

pub invariant_of-result : goal.invariant_of-result
invariant_of-result c = record {
  significand = c.args.d.in_range;
  near = twice _ _ c.args.d.in_range (c.from-seed.ensures ∙ c.entry_for.ensures) _ _ c.refined-once.ensures c.refined.ensures;
}
