-- Demand 3 in one piece. "There is no mask, word or order that parts the columns from these rules, at any accepted width." Assumes nothing.
use Rattle.std.specs.Prelude.{◌≡◌, true, List, ℕ, ◌^◌, ◌<◌, length}
use Rattle.std.specs.Int.Bits.{bit_and}
use Rattle.bits.specs.Bit.{pick}
use Rattle.bits.specs.Refusal.{log_of}
use Rattle.gather.specs.Gather.{gather_of, scatter_of, answer_of}
use Rattle.network.specs.Stage.{butterfly_of, inverse_of}
use Rattle.network.specs.Decoder.{decode_of, decode_inverse_of}
use Rattle.network.specs.Calls.{network_answer, decode_answer}
use Rattle.routing.specs.Lists.{ListPermutes, first_words}
use Rattle.permute.specs.Permutation.{names_once}
use Rattle.permute.specs.First.{First}
use Rattle.permute.specs.Calls.{route_answer, stages_in}

-- of the definitions, at width 2^L
pub record Demand3 (L : ℕ) : Type 0 where
  -- "the word sent through the butterfly on the settings decoded from that mask, with unmarked lines zeroed after, equals demand 2's scatter of that word on that mask"
  pub scatters : (mask word : ℕ) → mask < 2 ^ 2 ^ L → word < 2 ^ 2 ^ L
      → bit_and (butterfly_of L (decode_of L mask) word) mask ≡ scatter_of (2 ^ L) mask word
  -- "the word with unmarked lines zeroed first, then sent through the inverse on the settings decoded for the inverse, equals the word's gather on it"
  pub gathers : (mask word : ℕ) → mask < 2 ^ 2 ^ L → word < 2 ^ 2 ^ L
      → inverse_of L (decode_inverse_of L mask) (bit_and word mask) ≡ gather_of (2 ^ L) mask word
  -- "Whatever the order, if it names every line once, it gets settings for butterfly then inverse that bring every line of every word to its place, and any other
  -- settings that do so come later"
  pub routes : (entries : List ℕ) → ListPermutes (2 ^ L) entries → First L (first_words L entries) entries

-- The same of the calls' answers, at every accepted width w; and each call in it is carried out (refusal 0).
pub record Demand3Calls (w : ℕ) : Type 0 where
  pub scatters : (mask word : ℕ) → mask < 2 ^ w → word < 2 ^ w →
      let decoded = decode_answer w mask in
      let sent = network_answer butterfly_of w decoded.butterfly word in
      let scattered = answer_of scatter_of w mask word in
      (decoded.refusal ≡ 0) × (sent.refusal ≡ 0) × (scattered.refusal ≡ 0) × (bit_and sent.word mask ≡ scattered.word)
  pub gathers : (mask word : ℕ) → mask < 2 ^ w → word < 2 ^ w →
      let decoded = decode_answer w mask in
      let sent = network_answer inverse_of w decoded.inverse (bit_and word mask) in
      let gathered = answer_of gather_of w mask word in
      (decoded.refusal ≡ 0) × (sent.refusal ≡ 0) × (gathered.refusal ≡ 0) × (sent.word ≡ gathered.word)
  pub routes : (entries : List ℕ) → length entries ≡ w → names_once w entries ≡ true →
      let routed = route_answer w entries in
      (routed.refusal ≡ 0) × First (log_of w) (stages_in (log_of w) routed) entries
  -- and so the calls on both networks permute every word
  pub permutes : (entries : List ℕ) → length entries ≡ w → names_once w entries ≡ true → (word : ℕ) → word < 2 ^ w →
      let routed = route_answer w entries in
      let sent = network_answer butterfly_of w routed.butterfly word in
      (sent.refusal ≡ 0) × (network_answer inverse_of w routed.inverse sent.word ≡ record { refusal = 0; word = pick entries word })
