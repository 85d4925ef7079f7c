-- The whole network: all marks fresh, then routed, have the first controls.
-- Assumes nothing.
use mathlib.Core.Path.{◌≡◌, sym, ap, ◌∙◌, subst}
use mathlib.Core.List.{List, []}
use Prim.Native.Nat.{ℕ, suc, ◌+◌, ◌^◌, ◌≤◌, ◌<◌}
use native.Mathlib.Omega.{arith}
use lib.Pow.{pow_mono}
use lib.ListN.{length, replicate, length-replicate, get_or-replicate}
use Rattle.network.specs.Calls.{six}
use Rattle.routing.specs.Stages.{Agree}
use Rattle.routing.specs.FirstControls.{Permutes, first_controls}
use Rattle.routing.specs.Lists.{find, entry, ListPermutes, controls_of, butterfly_words, inverse_words, words_of, first_words}
use Rattle.routing.proofs.FirstControls.{first-controls-cong, inverse-unique}
use Rattle.routing.proofs.ListControls.{list-permutes}
use Rattle.routing.proofs.StageWords.{words-cong}
use Rattle.first.specs.declared.Mark.{Mark}
use Rattle.first.specs.declared.Mark.TheVariants.{Swaps, Unset}
use Rattle.first.specs.Marks.{mark_of, row, controls_in}
use Rattle.first.specs.Blocks.{place_in, Routable, BlockRouted, Placed}
use Rattle.first.proofs.Storing.{slot_small}

-- one place has no stages
pub no-butterfly : (log : ℕ) (entries : List ℕ) → log ≡ 0 → six [] ≡ six (first_words log entries).butterfly
unfolding first_words words_of butterfly_words
no-butterfly log entries z = ap (λ (n : ℕ). six (first_words n entries).butterfly) (sym z)

pub no-inverse : (log : ℕ) (entries : List ℕ) → log ≡ 0 → six [] ≡ six (first_words log entries).inverse
unfolding first_words words_of inverse_words
no-inverse log entries z = ap (λ (n : ℕ). six (first_words n entries).inverse) (sym z)

module _ (log : ℕ) (entries : List ℕ) (small : log ≤ 6) (is : ListPermutes (2 ^ log) entries) where
  pub entries_fit : length entries ≤ 64
  entries_fit = omega (arith, is.long, pow_mono small)

  pub entries-permute : ListPermutes (length entries) entries
  entries-permute = subst (λ (w : ℕ). ListPermutes w entries) (sym is.long) is

  module _ (e : ℕ) (one : log ≡ suc e) (to from : List ℕ) (placed : Placed (length entries) entries to from) where
    wide : length entries ≡ 2 ^ suc e
    wide = is.long ∙ ap (λ (n : ℕ). 2 ^ n) one

    pub all-routable : Routable e 0 to from (replicate 384 Unset)
    all-routable =
        record {
          long = length-replicate {A = Mark} 384 Unset;
          to-long = placed.to-long;
          from-long = placed.from-long;
          fits = record { stage = omega arith; room = omega (arith, pow_mono {i = e} {j = 5} (omega arith)) };
          perm = subst (λ (w : ℕ). Permutes w (place_in to 0) (place_in from 0)) wide placed.perm;
          fresh = λ c i z.
              ap mark_of
              (get_or-replicate {A = Mark} 384 (row c + i) Unset Swaps
              (slot_small c i (omega (arith, z.inner)) (omega (arith, z.high, pow_mono {i = e} {j = 5} (omega arith)))));
        }

    pub routed-first :
        (to' from' : List ℕ) (marks' : List Mark)
        → BlockRouted e 0 to from (replicate 384 Unset) to' from' marks'
        → words_of log (controls_in 0 marks') ≡ first_words log entries
    unfolding first_words controls_of
    routed-first to' from' marks' routed =
        let π = place_in to 0 in
        let ρ = place_in from 0 in
        let C = controls_in 0 marks' in
        let perm = subst (λ (w : ℕ). Permutes w π ρ) is.long placed.perm in
        let same : (p : ℕ) → p < 2 ^ log → π p ≡ entry entries p = λ p l. placed.same p (omega (arith, is.long)) in
        words-cong log C (first_controls log π ρ)
        (subst (λ (n : ℕ). Agree n C (first_controls n π ρ)) (sym one) routed.first)
        ∙ ap (words_of log)
        (first-controls-cong log π ρ (entry entries) (λ x. find x entries) same
        (inverse-unique (2 ^ log) π ρ (entry entries) (λ x. find x entries) perm (list-permutes (2 ^ log) entries is) same))
