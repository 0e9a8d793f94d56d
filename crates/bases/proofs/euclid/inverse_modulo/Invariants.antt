use Rattle.std.proofs.Common.{◌≡◌, ◌*◌, ◌%◌, ◌<◌, ◌≤◌}
use Rattle.bases.proofs.Divisors.{Common}
use Rattle.bases.proofs.euclid.inverse_modulo.Given as goal

abbrev pub invariant-loop-r1 : goal.invariant-loop-r1
invariant-loop-r1 l =
    (l.r0 ≤ l.m) × (l.r1 < l.m) × (l.t0 < l.m) × (l.t1 < l.m)
    × ((l.a * l.t0) % l.m ≡ l.r0 % l.m) × ((l.a * l.t1) % l.m ≡ l.r1 % l.m) × Common l.a l.m l.r0 l.r1

abbrev pub decreases-loop-r1 : goal.decreases-loop-r1
decreases-loop-r1 l = l.r1
