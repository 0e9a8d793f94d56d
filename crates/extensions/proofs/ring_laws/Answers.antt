use Rattle.extensions.proofs.Products.{binomial_laws, trinomial_laws, quadratic_passes, cubic_passes, quartic_passes, quintic_passes, octic_passes}
use Rattle.extensions.proofs.ring_laws.Goals as goal

pub returns : goal.returns
returns g c = record {
  quadratic = λ o L w. binomial_laws 1 quadratic_passes o L w;
  cubic = λ o L w. binomial_laws 2 cubic_passes o L w;
  quartic = λ o L w. binomial_laws 3 quartic_passes o L w;
  quintic = λ o L w. binomial_laws 4 quintic_passes o L w;
  octic = λ o L w. binomial_laws 7 octic_passes o L w;
  trinomial = λ o L. trinomial_laws o L;
}
