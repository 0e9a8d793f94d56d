-- Every reading is sound.
use Rattle.std.proofs.Common.{◌≡◌, ◌≤◌, length}
use Rattle.std.specs.Coded.{Coded-set, coded_list, coded_ℕ, le_prop}
use Rattle.std.proofs.Math.Logic.{∥∥₁_elim, ∥∥₁_prop}
use mathlib.Core.HLevel.{is_prop→PathP}
use mathlib.Mathlib.Logic.Function.Defs.Injective
use Rattle.algebra.specs.Ring.{power as to_power}
use Rattle.numbers.specs.Systems.{Sys, Lawful}
use Rattle.reading.specs.Sheet.{most, sum_of, Below, Below_prop}
use Rattle.reading.specs.Sound.{Sound}
use Rattle.reading.specs.declared.states.Reading.{Reading}

-- elements are told apart by their lists, so that an equation between them has one proof
told : (s : Sys) → Lawful s → {x y : s.Elem} → ∥ x ≡ y ∥₁ → x ≡ y
told s lawful {x} {y} e = ∥∥₁_elim e (Injective.is_set (Coded-set (coded_list coded_ℕ)) {f = s.list} lawful.list_injective x y) (λ e. e)

pub sound : {S : Type 0} {G : _} (r : Reading S G) → Lawful G.sys → Sound G.sys G.mean r
sound {G = G} r lawful = record {
  inverts = told G.sys lawful r.point.inverts;
  summed = told G.sys lawful r.summed;
  raised = told G.sys lawful r.raised;
  below = r.below;
}

-- Readings are the same where their fields are, since what the ghost fields say has one proof.
pub same_reading : {S : Type 0} {G : _} (r s : Reading S G) → r.point ≡ s.point → r.entries ≡ s.entries → r.sum ≡ s.sum → r.power ≡ s.power → r ≡ s
same_reading {G = G} r s point entries sum power = λ i. record {
  point = point i;
  entries = entries i;
  sum = sum i;
  power = power i;
  fits = is_prop→PathP (λ j. length (entries j) ≤ most) (λ j. le_prop) r.fits s.fits i;
  summed = is_prop→PathP (λ j. ∥ G.mean (sum j) ≡ sum_of G.sys (G.mean (point j).element) (entries j) ∥₁) (λ j. ∥∥₁_prop) r.summed s.summed i;
  raised = is_prop→PathP (λ j. ∥ G.mean (power j) ≡ to_power G.sys.ops (G.mean (point j).element) (length (entries j)) ∥₁) (λ j. ∥∥₁_prop) r.raised s.raised i;
  below = is_prop→PathP (λ j. Below G.sys.limit (entries j)) (λ j. Below_prop G.sys.limit (entries j)) r.below s.below i;
}
