-- Shifted by five for each variable: 32 to their number, which is small enough to be tried.
use Rattle.std.proofs.Common.{◌≡◌, ℕ, zero, suc, ◌*◌, ◌^◌, ◌≤◌, ◌%◌, refl, arith}
use Rattle.packed.proofs.variables.Variables.digit_place.Goals as goal

shifted : (n : ℕ) → n ≤ 4 → 1 * 2 ^ (5 * n) % 2 ^ 64 ≡ 32 ^ n
shifted zero h = refl
shifted (suc zero) h = refl
shifted (suc (suc zero)) h = refl
shifted (suc (suc (suc zero))) h = refl
shifted (suc (suc (suc (suc zero)))) h = refl
shifted (suc (suc (suc (suc (suc n))))) h = absurd (omega arith)

pub returns-clause-value : goal.returns-clause-value
returns-clause-value c = shifted c.args.self.count c.args.self.few
