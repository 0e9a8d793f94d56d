-- How the items of a morning come together: what may come when, and what is lacking at the end.
use Rattle.std.specs.Prelude.{◌≡◌, ℕ, ◌⊎◌, List, [], ◌∷◌, ◌++◌, codes, ◌≢◌, Option, Some, None, IsSome, Any, vec_items}
use Rattle.calculator.specs.Lines.{Passed as Skipped}
use Rattle.mornings.specs.Lines.{Because, Writes}
use Rattle.mornings.specs.Names.{system_of}
use Rattle.mornings.specs.Points.{IsPoint, NotPoint}
use Rattle.mornings.specs.declared.drafts.Draft.{Draft}
use Rattle.mornings.specs.declared.drafts.Missing as M
use Rattle.mornings.specs.declared.drafts.Missing.{Missing}
use Rattle.mornings.specs.declared.drafts.Morning.{Morning}
use Rattle.mornings.specs.declared.items.Item.{Item}
use Rattle.mornings.specs.declared.items.Item.TheVariants.{System, Point, Dock, Handset}
use Rattle.mornings.specs.declared.items.PointSource.{PointSource}
use Rattle.mornings.specs.declared.items.PointSource.TheVariants.{Random, Given}
use Rattle.mornings.specs.declared.items.Reason.{Reason}
use Rattle.mornings.specs.declared.items.Reason.TheVariants.{NoItem, StrangeSystem, NoPoint, StrangeHandset, NoCall, NoNumber, Twice, OutOfOrder, Refused}
use Rattle.mornings.specs.declared.items.SystemNumber.{SystemNumber}

-- nothing is known
pub record IsEmpty (d : Draft) : Type 0 where
  pub system : d.system ≡ None
  pub point : d.point ≡ None
  pub dock : d.dock ≡ None
  pub handsets : vec_items d.handsets ≡ []

-- some handset is there
abbrev pub HasHandsets : Draft → Type 0
HasHandsets d = vec_items d.handsets ≢ []

-- such an item is there already; of the handsets, the one of this number
abbrev pub Stands : Item → Draft → Type 0
Stands (System n) d = IsSome d.system
Stands (Point p) d = IsSome d.point
Stands (Dock cs) d = IsSome d.dock
Stands (Handset n cs) d = Any (λ h. h.number ≡ n) (vec_items d.handsets)

-- an item that has to come later is there already
abbrev pub Passed : Item → Draft → Type 0
Passed (System n) d = IsSome d.point ⊎ (IsSome d.dock ⊎ HasHandsets d)
Passed (Point p) d = IsSome d.dock ⊎ HasHandsets d
Passed (Dock cs) d = HasHandsets d
Passed (Handset n cs) d = ⊥

-- the point is one of the system, as far as both are known
abbrev pub Fits : Option SystemNumber → PointSource → Type 0
Fits (Some n) (Given v) = IsPoint (system_of n) (vec_items v)
Fits (Some n) Random = Unit {0}
Fits None p = Unit {0}

-- the point is refused by the system
abbrev pub Misfits : Option SystemNumber → Item → Reason → Type 0
Misfits (Some n) (Point (Given v)) (Refused q) = NotPoint (system_of n) (vec_items v) q
Misfits s i why = ⊥

-- the item came to what was known, and nothing else changed
abbrev pub Adds : Item → Draft → Draft → Type 0
Adds (System n) d e = e ≡ record d { system = Some n }
Adds (Point p) d e = (e ≡ record d { point = Some p }) × Fits d.system p
Adds (Dock cs) d e = e ≡ record d { dock = Some cs }
Adds (Handset n cs) d e =
    (e.system ≡ d.system) × (e.point ≡ d.point) × (e.dock ≡ d.dock) × (vec_items e.handsets ≡ vec_items d.handsets ++ (record { number = n; calls = cs } ∷ []))

-- the item was in order, and came to what was known
pub record Places (i : Item) (d e : Draft) : Type 0 where
  pub once : Stands i d → ⊥
  pub ordered : Passed i d → ⊥
  pub adds : Adds i d e

-- why an item is bad: it stands already, or else it is out of order, or else it is a point that the system refuses
abbrev pub Bars : Draft → Item → Reason → Type 0
Bars d i Twice = Stands i d
Bars d i OutOfOrder = (Stands i d → ⊥) × Passed i d
Bars d i (Refused q) = (Stands i d → ⊥) × (Passed i d → ⊥) × Misfits d.system i (Refused q)
Bars d i NoItem = ⊥
Bars d i StrangeSystem = ⊥
Bars d i NoPoint = ⊥
Bars d i StrangeHandset = ⊥
Bars d i NoCall = ⊥
Bars d i NoNumber = ⊥

-- the same is known as before
pub record Same (d e : Draft) : Type 0 where
  pub system : e.system ≡ d.system
  pub point : e.point ≡ d.point
  pub dock : e.dock ≡ d.dock
  pub handsets : vec_items e.handsets ≡ vec_items d.handsets

-- the line is passed over and nothing changed, or else it writes an item that came to what was known
abbrev pub Reads : List ℕ → Draft → Draft → Type 0
Reads line d e = (Skipped line × Same d e) ⊎ ((Skipped line → ⊥) × ((i : Item) × Writes i line × Places i d e))

-- why a line is bad: it writes no item for this reason, or else the item that it writes cannot come
abbrev pub Spoils : List ℕ → Draft → Reason → Type 0
Spoils line d why = (Skipped line → ⊥) × (Because line why ⊎ ((i : Item) × Writes i line × Bars d i why))

-- the morning is what is known, and has a handset
pub record Makes (d : Draft) (m : Morning) : Type 0 where
  pub system : d.system ≡ Some m.system
  pub point : d.point ≡ Some m.point
  pub dock : d.dock ≡ Some m.dock
  pub handsets : d.handsets ≡ m.handsets
  pub some : HasHandsets d

-- what is lacking first
abbrev pub Lacks : Draft → Missing → Type 0
Lacks d M.TheVariants.System = d.system ≡ None
Lacks d M.TheVariants.Point = IsSome d.system × (d.point ≡ None)
Lacks d M.TheVariants.Dock = IsSome d.system × IsSome d.point × (d.dock ≡ None)
Lacks d M.TheVariants.Handset = IsSome d.system × IsSome d.point × IsSome d.dock × (vec_items d.handsets ≡ [])

-- what is printed for what is lacking
abbrev pub missing_text : Missing → List ℕ
missing_text M.TheVariants.System = codes "there is no system"
missing_text M.TheVariants.Point = codes "there is no point"
missing_text M.TheVariants.Dock = codes "there is no dock"
missing_text M.TheVariants.Handset = codes "there is no handset"
