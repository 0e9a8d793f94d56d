use Rattle.extensions.proofs.Classes.{quadratic_class, cubic_class, quartic_class, quintic_class, octic_class, trinomial_class}
use Rattle.extensions.proofs.residue_classes.Goals as goal

pub returns : goal.returns
returns g c = record {
  quadratic = quadratic_class;
  cubic = cubic_class;
  quartic = quartic_class;
  quintic = quintic_class;
  octic = octic_class;
  trinomial = trinomial_class;
}
