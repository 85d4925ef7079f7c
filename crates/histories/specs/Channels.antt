-- Req 11: what a frame answers each channel and leaves it, by its number. Assumes nothing.
use Rattle.std.specs.Prelude.{◌≡◌, ℕ, zero, suc, ◌+◌, ◌-◌, cond, List, [], ◌∷◌, get_or, take, drop}
use Rattle.unit.specs.declared.Bank.{Bank}
use Rattle.unit.specs.Bank.{fresh_bank, waits}
use Rattle.unit.specs.Operation.{Operation}
use Rattle.runs.specs.declared.Outcome.{Outcome}
use Rattle.runs.specs.Run.{sum_of, run_of, continue_of}
use Rattle.frame.specs.declared.Channel.{Channel}
use Rattle.frame.specs.declared.Frame.{Frame}
use Rattle.frame.specs.Frame.{Brought, first_turn, rest_of, second_turn, channel_of}

-- channel n of those brought, what a frame answers it, and the bank that it leaves it; beyond them, a fresh bank and zeros
abbrev pub channel_at : List Brought → ℕ → Brought
channel_at cs n = get_or cs n (record { bank = fresh_bank; bytes = []; guarantee = 0 })

abbrev pub answer_at : Frame × List Bank → ℕ → Channel
answer_at f n = get_or f.0.channels n (record { «end» = 0; ran = 0; cycles = 0 })

abbrev pub bank_at : Frame × List Bank → ℕ → Bank
bank_at f n = get_or f.1 n fresh_bank

-- the cycles of all channels
unfoldable pub cycles_in : List Channel → ℕ
cycles_in [] = 0
cycles_in (x ∷ xs) = x.cycles + cycles_in xs

-- the cycles of the operation after the first n; 0 if there is none
abbrev pub next_cycles : ℕ → List Operation → ℕ
next_cycles n os = sum_of (take 1 (drop n os))

-- "A list is a continued run where its bank waits, else a new one": that run by itself
abbrev pub alone_of : Brought → ℕ → Outcome × Bank
alone_of c budget = cond (waits c.bank.registers) (continue_of c.bank c.bytes budget) (run_of c.bank c.bytes budget)

-- what channel n is offered of a rest: what those before it leave
abbrev pub offered_at : ℕ → List Brought → ℕ → ℕ
offered_at rest [] n = rest
offered_at rest (c ∷ cs) zero = rest
offered_at rest (c ∷ cs) (suc n) = offered_at (rest - (second_turn c rest).0.cycles) cs n

-- one budget for both turns of channel n: what its first turn used, and what it is offered
abbrev pub both_turns : List Brought → ℕ → ℕ
both_turns cs n = (first_turn (channel_at cs n)).0.cycles + offered_at (rest_of cs) cs n

-- A channel is answered and left as such a run is, with that budget.
pub record AsAlone (c : Brought) (budget : ℕ) (a : Channel) (k : Bank) : Type 0 where
  pub answer : a ≡ channel_of (alone_of c budget).0
  pub bank : k ≡ (alone_of c budget).1
