-- `first::Block::other_of` meets its contract. Assumes nothing.
use mathlib.Core.Path.{◌≡◌, sym, ap₂, ◌∙◌}
use Prim.Native.Nat.{ℕ, suc, ◌+◌, ◌*◌, ◌%◌, ◌^◌}
use native.Mathlib.Omega.{arith}
use borrow.Author.Rules.{rules}
use Rattle.routing.proofs.Level.{other-mod}
use Rattle.first.proofs.Block.other_of.Goals as goal

pub returns : goal.returns
returns c =
    let a = c.args in
    let two : 2 * c.half-2.result ≡ 2 ^ suc a.self.exponent = omega (arith, c.half-2.ensures.0) in
    ap₂ (λ (h k : ℕ). (a.x + h) % k) c.half.ensures.0 two
    ∙ sym (other-mod a.self.exponent a.x (search rules))
