use Rattle.p3_script.proofs.draws.draw_step.Goals as goal

pub returns-in-ChallengeScalar : goal.returns-in-ChallengeScalar
returns-in-ChallengeScalar g c = rw c.in-ChallengeScalar.is c.draw_scalar.ensures

pub returns-in-ChallengeScalars : goal.returns-in-ChallengeScalars
returns-in-ChallengeScalars g c = rw c.in-ChallengeScalars.is c.draw_scalars.ensures

pub returns-in-ChallengeExtension : goal.returns-in-ChallengeExtension
returns-in-ChallengeExtension g c = rw c.in-ChallengeExtension.is c.draw_extension.ensures

pub returns-in-ChallengeExtensions : goal.returns-in-ChallengeExtensions
returns-in-ChallengeExtensions g c = rw c.in-ChallengeExtensions.is c.draw_extensions.ensures

pub returns-in-ChallengeExtensionsRejecting : goal.returns-in-ChallengeExtensionsRejecting
returns-in-ChallengeExtensionsRejecting g c = rw c.in-ChallengeExtensionsRejecting.is c.draw_extensions_rejecting.ensures

pub returns-in-ChallengeBits : goal.returns-in-ChallengeBits
returns-in-ChallengeBits g c = rw c.in-ChallengeBits.is c.draw_bits.ensures

pub returns-in-ChallengeUniformBits : goal.returns-in-ChallengeUniformBits
returns-in-ChallengeUniformBits g c = rw c.in-ChallengeUniformBits.is c.draw_uniform_bits.ensures

pub returns-in-ChallengeUniformBitsRejecting : goal.returns-in-ChallengeUniformBitsRejecting
returns-in-ChallengeUniformBitsRejecting g c = rw c.in-ChallengeUniformBitsRejecting.is c.draw_uniform_bits_rejecting.ensures
