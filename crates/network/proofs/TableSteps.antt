-- By the table of distances and pairs: one turn of the spreading, the distance of a stage by its index. Assumes nothing.
use mathlib.Core.Path.{◌≡◌, sym, ◌∙◌, ap}
use Prim.Native.Nat.{ℕ, zero, suc, ◌+◌, ◌-◌, ◌*◌, ◌%◌, ◌^◌, ◌<◌}
use native.Mathlib.Omega.{arith}
use native.Mathlib.Nat.{not-suc-le-zero, pow-succ'}
use lib.Bits.{bit_and, bit_or}
use lib.ListN.{get_or}
use lib.Pow.{pow_pos}
use Rattle.network.specs.Stage.{falling}
use Rattle.network.specs.Word.{spread_of}
use Rattle.network.proofs.PairsExchanged.{spread-step}
use Rattle.network.proofs.Table.{distance_table, pair_table, distance-at, pair-at}

pub spread-turn : (at c : ℕ) {bits : ℕ} → at < 6 → bits ≡ spread_of (2 ^ (6 - at)) c
    → bit_and (bit_or bits (bits * 2 ^ get_or distance_table at 0 % 2 ^ 64)) (get_or pair_table at 0) ≡ spread_of (2 ^ (6 - (at + 1))) c
spread-turn at c h e =
    let k : suc (5 - at) ≡ 6 - at = omega arith in
    let n : 6 - (at + 1) ≡ 5 - at = omega arith in
    let w : 2 ^ (6 - at) ≡ 2 * 2 ^ (5 - at) = ap (λ (n : ℕ). 2 ^ n) (sym k) ∙ pow-succ' 2 (5 - at) in
    rw (e, distance-at at h, pair-at at h, w, n) (spread-step (2 ^ (5 - at)) c (pow_pos (5 - at)))

-- the distance of a stage by its index

pub falling-at : (L i : ℕ) → i < L → get_or (falling L) i 0 ≡ 2 ^ (L - 1 - i)
unfolding falling
falling-at zero i h = absurd (not-suc-le-zero h)
falling-at (suc L) zero h = let e : L ≡ suc L - 1 - 0 = omega arith in ap (λ (n : ℕ). 2 ^ n) e
falling-at (suc L) (suc i) h =
    let e : L - 1 - i ≡ suc L - 1 - suc i = omega arith in falling-at L i (omega arith) ∙ ap (λ (n : ℕ). 2 ^ n) e
