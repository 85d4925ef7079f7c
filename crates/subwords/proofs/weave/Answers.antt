-- `subwords::weave` meets its contract. Assumes nothing.
use Prim.Native.Nat.{◌/◌}
use Rattle.subwords.proofs.Sizes.{size-fills}
use Rattle.subwords.proofs.Weaving.{weave-masked}
use borrow.Author.Rules.{rules}
use Rattle.subwords.proofs.weave.Goals as goal

pub returns : goal.returns
returns c = λ z h e. rw e (weave-masked z (32 / z) (size-fills z h) (search rules) (search rules))
