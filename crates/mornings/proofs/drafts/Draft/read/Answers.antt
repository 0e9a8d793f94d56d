use Rattle.std.proofs.Common.{List, ℕ, sym, ◌∙◌, inr}
use Rattle.std.proofs.lemmas.Bool.{false≢true}
use Rattle.std.proofs.lemmas.Result.{MatchResult-weaker}
use Rattle.calculator.specs.Lines.{Passed as Skipped}
use Rattle.mornings.specs.Drafts.{Bars, Spoils}
use Rattle.mornings.specs.Lines.{Hindered, Writes}
use Rattle.mornings.specs.declared.drafts.Draft.{Draft}
use Rattle.mornings.specs.declared.items.Fault.{Fault}
use Rattle.mornings.specs.declared.items.Fault.TheVariants.{Bad, NoMemory}
use Rattle.mornings.specs.declared.items.Item.{Item}
use Rattle.mornings.proofs.drafts.Draft.read.Goals as goal

-- what bars the item that a line writes spoils the line
spoils : (line : List ℕ) (d : Draft) (i : Item) (fault : Fault) → (Skipped line → ⊥) → Writes i line → Hindered (Bars d i) fault → Hindered (Spoils line d) fault
spoils line d i (Bad why) apart w b = (apart, inr (i, w, b))
spoils line d i (NoMemory e) apart w b = tt

pub returns : goal.returns
returns c =
    let line = c.args.line.now in
    let i = c.in_ok-parse.field-0 in
    let apart : Skipped line → ⊥ = λ s. absurd (false≢true (sym c.if-passed_over.false ∙ c.passed_over.ensures.1 s)) in
    MatchResult-weaker c.place.result c.place.ensures
    (λ _ placed. inr (apart, (i, c.in_ok-parse.ensures, placed)))
    (λ fault w. (w.0, spoils line c.args.self.now i fault apart c.in_ok-parse.ensures w.1))
