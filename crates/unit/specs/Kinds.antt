-- The kinds of the table by their names. Assumes nothing.
use Rattle.std.specs.Prelude.{ℕ}
use Rattle.unit.specs.declared.Kind.{Kind}
use Rattle.unit.specs.declared.Kind.TheVariants.{Butterfly, Inverse, InverseOfMasked, ButterflyMasked, Load, Gather, Scatter, DecodeInverse, Decode, Group}

abbrev pub kind_number : Kind → ℕ
kind_number Butterfly = 1
kind_number Inverse = 2
kind_number InverseOfMasked = 3
kind_number ButterflyMasked = 4
kind_number Load = 5
kind_number Gather = 6
kind_number Scatter = 7
kind_number DecodeInverse = 8
kind_number Decode = 9
kind_number Group = 10
