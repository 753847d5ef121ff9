use Rattle.eikonal.proofs.Local.{earlier-min}
use Rattle.arrival.proofs.axis.Goals as goal

pub returns : goal.returns
returns c = rw (earlier-min, ← c.known.ensures, ← c.known-2.ensures) c.min.ensures
