-- Each clause computes: Keccak-256 is run on the two messages, and the procedures of the tables to their ends.
use Rattle.std.proofs.Common.{refl}
use Rattle.p3_keccak.specs.{Keccak.{absorb, absorbed, add_lanes, chi, iota, keccak256, lane_bytes, pi, rho, round, rounds, theta}, Tables.{register, register_step, round_constant, walk}}
use Rattle.p3_keccak.proofs.laws.follows_the_standard.Goals as goal

pub returns-clause-rotations : goal.returns-clause-rotations
unfolding walk
returns-clause-rotations c = refl

pub returns-clause-constants : goal.returns-clause-constants
unfolding register register_step round_constant
returns-clause-constants c = refl

pub returns-clause-nothing : goal.returns-clause-nothing
unfolding absorb absorbed add_lanes chi iota keccak256 lane_bytes pi rho round rounds theta
returns-clause-nothing c = refl

pub returns-clause-abc : goal.returns-clause-abc
unfolding absorb absorbed add_lanes chi iota keccak256 lane_bytes pi rho round rounds theta
returns-clause-abc c = refl
