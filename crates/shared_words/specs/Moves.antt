-- A step among all threads.
use Rattle.std.specs.Prelude.{◌≡◌, ℕ, List, set}
use mathlib.Core.Option.{some}
use lib.ListN.{get_elem?}
use Rattle.itm_types.specs.declared.step.Step.{Step}
use Rattle.shared_words.specs.declared.view.View.{View}
use Rattle.shared_words.specs.Steps.{finds, cells_after}
use Rattle.shared_words.specs.Good.{Good}

-- some cells and views were good, the view of the pass among them; the step found what stood in its cell then, and left these cells; with the view that the pass has now they are good again
pub record Moves (v : View) (step : Step) (n : ℕ) (w : View) : Type 0 where
  pub cells : List ℕ
  pub views : List View
  pub place : ℕ
  pub good : Good cells views
  pub here : get_elem? views place ≡ some v
  pub finds_it : n ≡ finds cells step
  pub good_then : Good (cells_after cells step) (set views place w)
