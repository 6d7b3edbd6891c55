-- What is read through a view, from outside the crate that makes it. Serves [10.6d].
use Rattle.std.specs.Prelude.{List, ◌≡◌, ◌⊎◌, ℕ, Ok, Err}
use Rattle.std.specs.Borrow.{Bor}
use Rattle.std.specs.declared.result.Result.{Result}
use Rattle.rules.specs.declared.Refusal.{Refusal}
use Rattle.rules.specs.declared.Unopened.{Unopened}
use Rattle.rules.specs.declared.Unopened.TheVariants.{Refused}
use Rattle.stored.specs.Views.{OpensAs, PageOf}
use Rattle.stored.specs.declared.Page.{Page}
use Rattle.stored.specs.declared.View.{View}

-- What the view v of a stored result gives for round r, in words or refused.
abbrev pub PageFills : View → ℕ → Result (Bor (List ℕ)) Unopened → Type 0
PageFills v r (Ok words) = (page : Page) × PageOf v r (Ok page) × (words ≡ page.fills)
PageFills v r (Err u) = (refusal : Refusal) × PageOf v r (Err refusal) × (u ≡ Refused refusal)

-- The words are the fills of the page that a view of the stored result, opened beside the sheet, gives for round r. Where
-- there is no view or no such page, they are refused likewise.
abbrev pub ViewedFills : List ℕ → Bor (List ℕ) → ℕ → Result (Bor (List ℕ)) Unopened → Type 0
ViewedFills ws stored r (Ok words) = (v : View) × OpensAs ws stored (Ok v) × PageFills v r (Ok words)
ViewedFills ws stored r (Err u) = OpensAs ws stored (Err u) ⊎ ((v : View) × OpensAs ws stored (Ok v) × PageFills v r (Err u))
