-- What an accepted sheet says, for the promises of all calls that go on from its reading. Serves [3.14].
use Rattle.std.specs.Prelude.{List, ◌++◌, ◌≡◌, ℕ, ◌-◌, replicate, Ok, Err}
use Rattle.std.specs.declared.result.Result.{Result}
use Rattle.rules.specs.Answers.{refused}
use Rattle.rules.specs.Limits.{no_order}
use Rattle.rules.specs.Sheet.{most_orders, heading_of, orders_of, check_sheet, AcceptedSheet}
use Rattle.rules.specs.declared.Order.{Order}
use Rattle.rules.specs.declared.Refusal.{Refusal}
use Rattle.rules.specs.declared.Sheet.{Sheet}

-- 120 places: the orders of the sheet, and then places that hold none.
unfoldable pub places_read : List ℕ → List Order
places_read ws = orders_of ws ++ replicate (most_orders - (heading_of ws).count) no_order

-- The sheet ws is accepted, and this is what it says: its heading, and its orders in their places.
pub record AcceptedAs (ws : List ℕ) (s : Sheet) : Type 0 where
  pub passes : AcceptedSheet ws
  pub headed : s.heading ≡ heading_of ws
  pub placed : s.orders ≡ places_read ws

-- It is what some accepted sheet says.
pub record OfSheet (s : Sheet) : Type 0 where
  pub words : List ℕ
  pub accepted : AcceptedAs words s

-- A reading of the sheet ws: what it says, or its refusal.
abbrev pub ReadsAs : List ℕ → Result Sheet Refusal → Type 0
ReadsAs ws (Ok s) = AcceptedAs ws s
ReadsAs ws (Err r) = check_sheet ws ≡ refused r
