-- Theorems on planes whose lone pixels are put out. Assumes nothing.
use mathlib.Core.Path.{◌≡◌, sym, ◌∙◌, ap, ap₂}
use mathlib.Core.Logic.{◌⊎◌, inl, inr}
use mathlib.Core.List.{List, [], ◌++◌, append-nil}
use Prim.Native.Nat.{ℕ, ◌+◌, ◌-◌, ◌*◌, ◌/◌, ◌%◌, ◌^◌, ◌<◌, ◌≤◌}
use native.Mathlib.Omega.{arith}
use native.Mathlib.Nat.{mod-lt, mod-eq_of_lt, div-add-mod', div-lt_iff_lt-mul, mul_comm, zero-mul}
use native.Mathlib.Decide.{dec_lt, ℕ_discrete}
use lib.ListN.{length, get_or, take, drop, replicate, length-replicate, get_or-replicate, get_or-append}
use lib.Seq.{ext_get_or, take_at}
use Rattle.bits.specs.Bit.{bit}
use Rattle.bits.proofs.Word.{ext, digit, bit-of_bits, of_bits-lt, bit-of-zero, bit-ones}
use Rattle.bits.proofs.UpTo.{length-up_to, get_or-up_to}
use Rattle.bits.proofs.Refusals.{left-done}
use Rattle.despeckle.specs.Plane.{pixel, bordered, around, lit_rule, new_word, despeckled}
use Rattle.despeckle.specs.Beside.{LitBeside}
use Rattle.despeckle.specs.Calls.{despeckle_answer, despeckled_out}
use Rattle.despeckle.proofs.Border.{index-lt, pixel-within, bordered-lit}
use Rattle.despeckle.proofs.Sliding.{rule-lt}
use Rattle.despeckle.proofs.Rows.{new_word_lem}
use Rattle.despeckle.proofs.Rule.{own-pixel, new-exactly, dark-stays}
use Rattle.despeckle.proofs.PlaneAnswers.{plane-within, plane-by-none}

-- Every pixel of the new plane is the rule at its number, whatever words follow.
module _ (ws : List ℕ) (v h : ℕ) where
  pub new-pixel : (rest : List ℕ) (y x : ℕ) → y < h → x < 64 * v → pixel (despeckled ws v h ++ rest) v h y x ≡ lit_rule (around ws v h y x)
  new-pixel rest y x a b =
      let at = x / 64 in
      let l : at < v = omega arith in
      let k : y * v + at < v * h = index-lt y at a l in
      let c : 64 * at + (63 - (63 - x % 64)) ≡ x = omega arith in
      pixel-within (despeckled ws v h ++ rest) v h y x a b
      ∙ ap (λ (w : ℕ). bit w (63 - x % 64))
      (get_or-append (despeckled ws v h) rest 0 (y * v + at) (omega (arith, k, length-up_to (new_word ws v h) (v * h)))
      ∙ get_or-up_to (new_word ws v h) (v * h) (y * v + at) k
      ∙ new_word_lem ws v h y at l)
      ∙ bit-of_bits 64 _ (63 - x % 64) (omega arith)
      ∙ mod-eq_of_lt (rule-lt _)
      ∙ ap (λ (n : ℕ). lit_rule (around ws v h y n)) c

  -- a plane is its pixels: one whose pixels all stay as they are comes back
  pub comes_back : length ws ≡ v * h → ((k : ℕ) → k < v * h → get_or ws k 0 < 2 ^ 64)
      → ((y x : ℕ) → y < h → x < 64 * v → lit_rule (around ws v h y x) ≡ pixel ws v h y x) → despeckled ws v h ≡ ws
  unfolding new_word
  comes_back e f g =
      ext_get_or 0 (despeckled ws v h) ws (length-up_to (new_word ws v h) (v * h) ∙ sym e)
      (λ k l. let b : k < v * h = omega (arith, l, length-up_to (new_word ws v h) (v * h)) in get_or-up_to (new_word ws v h) (v * h) k b ∙ same k b)
    where
      same : (k : ℕ) → k < v * h → new_word ws v h k ≡ get_or ws k 0
      same k b =
          let some : 0 < v = positive k b in
          let y : k / v < h = (div-lt_iff_lt-mul some).1 (omega (arith, b, mul_comm h v)) in
          let c : k % v < v = mod-lt k some in
          ext 64 (of_bits-lt 64 _) (f k b) (λ i l. bit-of_bits 64 _ i l ∙ mod-eq_of_lt (rule-lt _) ∙ at-bit k y c i l)
        where
          positive : (k : ℕ) → k < v * h → 0 < v
          positive k b = by (ℕ_discrete v 0)
            where
              by : Dec (v ≡ 0) → 0 < v
              by (yes z) = absurd (omega (arith, b, ap (λ (n : ℕ). n * h) z, zero-mul h))
              by (no z) = omega arith

          at-bit : (k : ℕ) → k / v < h → k % v < v → (i : ℕ) → i < 64
              → lit_rule (around ws v h (k / v) (64 * (k % v) + (63 - i))) ≡ bit (get_or ws k 0) i
          at-bit k y c i l =
              let x = 64 * (k % v) + (63 - i) in
              let at : x / 64 ≡ k % v = omega arith in
              let p : 63 - x % 64 ≡ i = omega arith in
              let q : k / v * v + x / 64 ≡ k = omega (arith, at, div-add-mod' k v) in
              g (k / v) x y (omega (arith, c)) ∙ pixel-within ws v h (k / v) x y (omega (arith, c)) ∙ ap₂ (λ (j n : ℕ). bit (get_or ws j 0) n) q p

-- An all-dark and an all-lit plane come back as they are.

module _ (v h : ℕ) where
  abbrev dark : List ℕ
  dark = replicate (v * h) 0

  abbrev lit : List ℕ
  lit = replicate (v * h) (2 ^ 64 - 1)

  word-alike : (w k : ℕ) → k < v * h → get_or (replicate (v * h) w) k 0 ≡ w
  word-alike w k l = get_or-replicate (v * h) k w 0 l

  pixel-alike : (w y x : ℕ) → y < h → x < 64 * v → pixel (replicate (v * h) w) v h y x ≡ bit w (63 - x % 64)
  pixel-alike w y x a b =
      pixel-within (replicate (v * h) w) v h y x a b
      ∙ ap (λ (n : ℕ). bit n (63 - x % 64)) (word-alike w (y * v + x / 64) (index-lt y (x / 64) a (omega arith)))

  pub dark-plane : despeckled (replicate (v * h) 0) v h ≡ replicate (v * h) 0
  dark-plane =
      comes_back dark v h (length-replicate (v * h) 0) (λ k l. omega (arith, word-alike 0 k l))
      (λ y x a b. let z = pixel-alike 0 y x a b ∙ bit-of-zero (63 - x % 64) in dark-stays dark v h y x z ∙ sym z)

  pub lit-plane : despeckled (replicate (v * h) (2 ^ 64 - 1)) v h ≡ replicate (v * h) (2 ^ 64 - 1)
  lit-plane =
      comes_back lit v h (length-replicate (v * h) (2 ^ 64 - 1)) (λ k l. omega (arith, word-alike (2 ^ 64 - 1) k l))
      (λ y x a b. (new-exactly lit v h y x).1 (one y x a b, beside y x a b (dec_lt (x + 1) (64 * v))) ∙ sym (one y x a b))
    where
      one : (y x : ℕ) → y < h → x < 64 * v → pixel lit v h y x ≡ 1
      one y x a b = pixel-alike (2 ^ 64 - 1) y x a b ∙ bit-ones 64 (63 - x % 64) (omega arith)

      in_row : (y x right : ℕ) → right < 3 → (right ≡ 1 → ⊥) → bordered lit v h (y + 1) (x + right) ≡ 1 → LitBeside lit v h y x
      in_row y x right l n e = record {
        down = 1;
        right = right;
        down_near = omega arith;
        right_near = l;
        other = λ q. n q.1;
        lit = e;
      }

      -- the next of the row, or at its end the one before
      beside : (y x : ℕ) → y < h → x < 64 * v → Dec (x + 1 < 64 * v) → LitBeside lit v h y x
      beside y x a b (yes l) =
          let e : x + 2 ≡ x + 1 + 1 = omega arith in
          in_row y x 2 (omega arith) (λ z. absurd (omega (arith, z))) (ap (bordered lit v h (y + 1)) e ∙ own-pixel lit v h y (x + 1) ∙ one y (x + 1) a l)
      beside y x a b (no l) =
          let e : x + 0 ≡ x - 1 + 1 = omega arith in
          in_row y x 0 (omega arith) (λ z. absurd (omega (arith, z)))
          (ap (bordered lit v h (y + 1)) e ∙ own-pixel lit v h y (x - 1) ∙ one y (x - 1) a (omega arith))

-- Twice is once: a pixel that stays has a lit one beside it, which has that pixel beside it and so stays too.
module _ (ws : List ℕ) (v h : ℕ) where
  abbrev once : List ℕ
  once = despeckled ws v h

  after : (y x : ℕ) → y < h → x < 64 * v → pixel once v h y x ≡ lit_rule (around ws v h y x)
  after y x a b = ap (λ (l : List ℕ). pixel l v h y x) (sym (append-nil once)) ∙ new-pixel ws v h [] y x a b

  -- the pixel beside one that stays stays
  beside-stays : (y x : ℕ) → pixel ws v h y x ≡ 1 → LitBeside ws v h y x → LitBeside once v h y x
  beside-stays y x e b =
      let f = bordered-lit ws v h (y + b.down) (x + b.right) b.lit in
      let u = f.0 in
      let l = f.1 in
      let r : u + (2 - b.down) ≡ y + 1 = omega (arith, f.2, b.down_near) in
      let c : l + (2 - b.right) ≡ x + 1 = omega (arith, f.3, b.right_near) in
      let back : LitBeside ws v h u l = record {
        down = 2 - b.down;
        right = 2 - b.right;
        down_near = omega arith;
        right_near = omega arith;
        other = λ q. b.other (omega (arith, q.0, b.down_near), omega (arith, q.1, b.right_near));
        lit = ap₂ (bordered ws v h) r c ∙ own-pixel ws v h y x ∙ e;
      }
      in
      record {
        down = b.down;
        right = b.right;
        down_near = b.down_near;
        right_near = b.right_near;
        other = b.other;
        lit =
            ap₂ (bordered once v h) f.2 f.3
            ∙ own-pixel once v h u l
            ∙ after u l f.4 f.5
            ∙ (new-exactly ws v h u l).1 (f.6, back);
      }

  pub twice : despeckled (despeckled ws v h) v h ≡ despeckled ws v h
  unfolding new_word
  twice =
      comes_back once v h (length-up_to (new_word ws v h) (v * h)) (λ k l. rw (get_or-up_to (new_word ws v h) (v * h) k l) (of_bits-lt 64 _))
      (λ y x a b. by y x (after y x a b) (digit (lit_rule (around ws v h y x)) (rule-lt _)))
    where
      by : (y x : ℕ) → pixel once v h y x ≡ lit_rule (around ws v h y x) → (lit_rule (around ws v h y x) ≡ 0) ⊎ (lit_rule (around ws v h y x) ≡ 1)
          → lit_rule (around once v h y x) ≡ pixel once v h y x
      by y x e (inl z) = dark-stays once v h y x (e ∙ z) ∙ sym (e ∙ z)
      by y x e (inr o) =
          let b = (new-exactly ws v h y x).0 o in
          (new-exactly once v h y x).1 (e ∙ o, beside-stays y x b.0 b.1) ∙ sym (e ∙ o)

-- Of the call: what it leaves if it is carried out, each pixel, and the call on what it left.
module _ (ws : List ℕ) (h v : ℕ) (out : List ℕ) (e : despeckle_answer ws h v out ≡ 0) where
  pub calls-despeckled : despeckled_out ws h v out ≡ despeckled ws v h ++ drop (v * h) out
  calls-despeckled = left-done e _ out

  pub calls-pixel : (y x : ℕ) → y < h → x < 64 * v → pixel (despeckled_out ws h v out) v h y x ≡ lit_rule (around ws v h y x)
  calls-pixel y x a b = ap (λ (l : List ℕ). pixel l v h y x) calls-despeckled ∙ new-pixel ws v h (drop (v * h) out) y x a b

  -- the words of the new plane
  calls-taken : take (v * h) (despeckled_out ws h v out) ≡ despeckled ws v h
  calls-taken = ap (take (v * h)) calls-despeckled ∙ take_at (despeckled ws v h) (drop (v * h) out) (v * h) (length-up_to (new_word ws v h) (v * h))

  pub calls-twice : (other : List ℕ) → v * h ≤ length other → length other ≤ 2048
      → let once = take (v * h) (despeckled_out ws h v out) in
      (despeckle_answer once h v other ≡ 0) × (despeckled_out once h v other ≡ once ++ drop (v * h) other)
  calls-twice other a b = rw calls-taken (accepted, left-done accepted _ other ∙ ap (λ (l : List ℕ). l ++ drop (v * h) other) (twice ws v h))
    where
      accepted : despeckle_answer (despeckled ws v h) h v other ≡ 0
      accepted =
          let w = plane-within (length ws) h v (length out) e in
          let n = length-up_to (new_word ws v h) (v * h) in
          sym (plane-by-none _ h v (length other) (record {
            own-limit = omega (arith, n, w.whole, w.own-limit);
            other-limit = b;
            room = a;
            some-rows = w.some-rows;
            some_words = w.some_words;
            whole = sym n;
          }))
