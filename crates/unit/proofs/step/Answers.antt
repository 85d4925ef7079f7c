-- `unit::step` meets its contract. Assumes nothing.
use mathlib.Core.Path.{◌≡◌, ◌∙◌, ap}
use mathlib.Core.Logic.{◌⊎◌, inl, inr}
use borrow.Author.Rules.{rules}
use Rattle.unit.specs.declared.Kind.{Kind}
use Rattle.unit.specs.Bank.{packed_of}
use Rattle.unit.specs.Kinds.{kind_number}
use Rattle.unit.proofs.TableRows.{row-1-4, row-2-3, row-5, row-6, row-7, row-8, row-9, row-10, row-none}
use Rattle.unit.proofs.step.Goals as goal

-- the numbers of two kinds
numbers : {kind a b : Kind} → (kind ≡ a) ⊎ (kind ≡ b) → (kind_number kind ≡ kind_number a) ⊎ (kind_number kind ≡ kind_number b)
numbers (inl e) = inl (ap kind_number e)
numbers (inr e) = inr (ap kind_number e)

pub returns-in_default : goal.returns-in_default
returns-in_default c = row-none _ _ _ _ _ c.in_default.ensures

pub returns-in-Butterfly : goal.returns-in-Butterfly
returns-in-Butterfly c =
    c.put.ensures
    ∙ row-1-4 _ _ c.in-Ok.ensures c.general_at-x.ensures c.general_at-y.ensures (numbers c.in-Butterfly.is) c.butterfly.ensures (search rules) c.mask.ensures

pub returns-in-Inverse : goal.returns-in-Inverse
returns-in-Inverse c =
    c.put-in-Inverse.ensures
    ∙ row-2-3 _ _ c.in-Ok.ensures c.general_at-x.ensures c.general_at-y.ensures (numbers c.in-Inverse.is) (search rules) c.mask-in-Inverse.ensures c.inverse.ensures

pub returns-in-Load : goal.returns-in-Load
returns-in-Load c = c.load.ensures ∙ row-5 _ _ c.in-Ok.ensures c.general_at-x.ensures c.general_at-y.ensures (ap kind_number c.in-Load.is)

pub returns-in-Gather : goal.returns-in-Gather
returns-in-Gather c = c.put-in-Gather.ensures ∙ row-6 _ _ c.in-Ok.ensures c.general_at-x.ensures c.general_at-y.ensures (ap kind_number c.in-Gather.is) c.gather_64.ensures

pub returns-in-Scatter : goal.returns-in-Scatter
returns-in-Scatter c = c.put-in-Scatter.ensures ∙ row-7 _ _ c.in-Ok.ensures c.general_at-x.ensures c.general_at-y.ensures (ap kind_number c.in-Scatter.is) c.scatter_64.ensures

pub returns-in-DecodeInverse : goal.returns-in-DecodeInverse
returns-in-DecodeInverse c =
    row-8 _ _ c.in-Ok.ensures c.general_at-x.ensures c.general_at-y.ensures (ap kind_number c.in-DecodeInverse.is) (c.packed-registers.ensures ∙ ap packed_of c.decode_inverse_64.ensures)

pub returns-in-Decode : goal.returns-in-Decode
returns-in-Decode c =
    row-9 _ _ c.in-Ok.ensures c.general_at-x.ensures c.general_at-y.ensures (ap kind_number c.in-Decode.is) (c.packed-registers-in-Decode.ensures ∙ ap packed_of c.decode_64.ensures)

pub returns-in-Group : goal.returns-in-Group
returns-in-Group c = c.put-in-Group.ensures ∙ row-10 _ _ c.in-Ok.ensures c.general_at-x.ensures c.general_at-y.ensures (ap kind_number c.in-Group.is) c.group_64.ensures
