-- Level 2 may load its input ports and the link.
use Rattle.std.proofs.Common.{refl, ap, ℕ, ◌+◌, ◌<◌, IsTrue, arith}
use Rattle.eg_guard.specs.declared.regions.TheConstants.{IN_PORTS, LINK}
use Rattle.eg_guard.specs.declared.regions.Who.TheVariants.{Level2}
use Rattle.eg_guard.specs.Regions.{allows, access, region_of}
use Rattle.eg_guard.proofs.AccessLemmas.{in_ports-is}

pub port_load : (number : ℕ) → number < 10 → IsTrue (access Level2 (IN_PORTS + number)).load
unfolding access allows
port_load number within = ap (λ region. (allows region Level2).load) (in_ports-is (2048 + number) (omega arith) (omega arith))

pub link_load : IsTrue (access Level2 LINK).load
unfolding access allows region_of
link_load = refl

pub ruleset ports = (port_load, link_load)
