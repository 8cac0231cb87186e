-- How a tag goes on, by the arms of the code.
-- Assumes nothing.
use Prim.Native.Nat.{ℕ, zero, suc, ◌<◌}
use native.Mathlib.Omega.{arith}
use mathlib.Core.Path.{◌≡◌, refl}
use Rattle.reader.specs.Table.{elements, plain_rest, step_rest, cardinality_rest, rest}
use Rattle.reader.proofs.Choices.{one_of_two}

-- one of two tags
pub rest-step : (c : ℕ) → ((c ≡ 4 → ⊥) → c ≡ 5) → rest c ≡ step_rest
unfolding rest
rest-step c e = one_of_two (λ c. rest c ≡ step_rest) 4 5 c refl refl e

pub rest-cardinality : (c : ℕ) → ((c ≡ 6 → ⊥) → c ≡ 8) → rest c ≡ cardinality_rest
unfolding rest
rest-cardinality c e = one_of_two (λ c. rest c ≡ cardinality_rest) 6 8 c refl refl e

-- none of those that have attributes
pub rest_plain : (c : ℕ) → c < elements → (c ≡ 2 → ⊥) → (c ≡ 4 → ⊥) → (c ≡ 5 → ⊥) → (c ≡ 6 → ⊥) → (c ≡ 8 → ⊥) → (c ≡ 10 → ⊥) → (c ≡ 11 → ⊥) → rest c ≡ plain_rest
unfolding rest
rest_plain zero l n2 n4 n5 n6 n8 n10 n11 = refl
rest_plain (suc zero) l n2 n4 n5 n6 n8 n10 n11 = refl
rest_plain (suc (suc zero)) l n2 n4 n5 n6 n8 n10 n11 = absurd (n2 refl)
rest_plain (suc (suc (suc zero))) l n2 n4 n5 n6 n8 n10 n11 = refl
rest_plain (suc (suc (suc (suc zero)))) l n2 n4 n5 n6 n8 n10 n11 = absurd (n4 refl)
rest_plain (suc (suc (suc (suc (suc zero))))) l n2 n4 n5 n6 n8 n10 n11 = absurd (n5 refl)
rest_plain (suc (suc (suc (suc (suc (suc zero)))))) l n2 n4 n5 n6 n8 n10 n11 = absurd (n6 refl)
rest_plain (suc (suc (suc (suc (suc (suc (suc zero))))))) l n2 n4 n5 n6 n8 n10 n11 = refl
rest_plain (suc (suc (suc (suc (suc (suc (suc (suc zero)))))))) l n2 n4 n5 n6 n8 n10 n11 = absurd (n8 refl)
rest_plain (suc (suc (suc (suc (suc (suc (suc (suc (suc zero))))))))) l n2 n4 n5 n6 n8 n10 n11 = refl
rest_plain (suc (suc (suc (suc (suc (suc (suc (suc (suc (suc zero)))))))))) l n2 n4 n5 n6 n8 n10 n11 = absurd (n10 refl)
rest_plain (suc (suc (suc (suc (suc (suc (suc (suc (suc (suc (suc zero))))))))))) l n2 n4 n5 n6 n8 n10 n11 = absurd (n11 refl)
rest_plain (suc (suc (suc (suc (suc (suc (suc (suc (suc (suc (suc (suc c)))))))))))) l n2 n4 n5 n6 n8 n10 n11 = absurd (omega arith)
