-- The closure `by_one` of `despeckle::slide_word` meets its contract. Assumes nothing.
use Rattle.despeckle.proofs.Sliding.{passes-one}
use Rattle.despeckle.proofs.fn.slide_word.by_one.Goals as goal

pub returns : goal.returns
returns c = passes-one _ _ _ c.slide.ensures c.column.ensures c.lit-word.ensures
