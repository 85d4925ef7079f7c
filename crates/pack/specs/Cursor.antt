-- Where a cursor stands in a stream of bits. Internal: no answer of a call cites it. Assumes nothing.
use Rattle.std.specs.Prelude.{◌≡◌, cond, List, ℕ, ◌+◌, ◌*◌, ◌%◌, ◌<◌, eqb, length, get_or, set}
use Rattle.bits.specs.Bit.{bit, of_bits, overwritten}
use Rattle.gather.specs.Gather.{gather_of}
use Rattle.pack.specs.declared.Cursor.{Cursor}
use Rattle.pack.specs.declared.Pair.{Pair}
use Rattle.pack.specs.Fields.{size_of, stream_of, word_at, packed_bit}

-- nothing written or read
pub record IsStart (c : Cursor) : Type 0 where
  pub word : c.word ≡ 0
  pub held : c.held ≡ 0
  pub pending : c.pending ≡ 0

-- The n first bits of the stream s are put: whole words are in `out`, the bits of the word begun are held in the cursor.
pub record Holds (s : ℕ → ℕ) (n : ℕ) (c : Cursor) (old out : List ℕ) : Type 0 where
  pub at : 64 * c.word + c.held ≡ n
  pub bits : c.pending ≡ of_bits c.held (λ i. s (64 * c.word + i))
  pub words : out ≡ overwritten c.word (word_at s) old

-- The first of an odd number of words is put, and no word is written.
pub record Begins (m : ℕ) (ws : List ℕ) (r : Cursor) : Type 0 where
  pub holds : (old : List ℕ) → Holds (stream_of m ws) (size_of m * (length ws % 2)) r old old

-- Putting a field moves the cursor on: whatever the stream, if the field is its next `size` bits.
pub record Puts (c : Cursor) (size field : ℕ) (before : List ℕ) (r : Cursor) (after : List ℕ) : Type 0 where
  pub at : 64 * r.word + r.held ≡ 64 * c.word + c.held + size
  pub next : (s : ℕ → ℕ) (n : ℕ) (old : List ℕ) → Holds s n c old before → field ≡ of_bits size (λ i. s (n + i)) → Holds s (n + size) r old after

-- both fields put, by way of a cursor between
pub record PutsPair (c : Cursor) (size : ℕ) (pair : Pair) (before : List ℕ) (r : Cursor) (after : List ℕ) : Type 0 where
  pub between : Cursor
  pub middle : List ℕ
  pub low : Puts c size pair.low before between middle
  pub high : Puts between size pair.high middle r after

-- the word begun, if there is one, written
abbrev pub finished : Cursor → List ℕ → List ℕ
finished c out = cond (eqb c.held 0) out (set out c.word c.pending)

-- the fields of words i and i + 1
pub record Gathers (m : ℕ) (ws : List ℕ) (i : ℕ) (r : Pair) : Type 0 where
  pub low : r.low ≡ gather_of 64 m (get_or ws i 0)
  pub high : r.high ≡ gather_of 64 m (get_or ws (i + 1) 0)

-- The n first bits of packed words are taken: those of the last word read that are not are held in the cursor.
pub record Awaits (ps : List ℕ) (n : ℕ) (c : Cursor) : Type 0 where
  pub at : n + c.held ≡ 64 * c.word
  pub bits : c.pending ≡ of_bits c.held (λ i. packed_bit ps (n + i))

-- the `size` low bits of x are those from bit n
pub record Reads (ps : List ℕ) (n size x : ℕ) : Type 0 where
  pub bits : (i : ℕ) → i < size → bit x i ≡ packed_bit ps (n + i)

-- Taking a field moves the cursor on.
pub record Takes (ps : List ℕ) (c : Cursor) (size x : ℕ) (r : Cursor) : Type 0 where
  pub next : (n : ℕ) → Awaits ps n c → Awaits ps (n + size) r
  pub field : (n : ℕ) → Awaits ps n c → Reads ps n size x
