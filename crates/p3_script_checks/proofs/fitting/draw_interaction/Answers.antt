use Rattle.p3_script_checks.proofs.fitting.draw_interaction.Goals as goal

pub returns-in-ChallengeScalar : goal.returns-in-ChallengeScalar
returns-in-ChallengeScalar g c = λ carry. rw c.in-ChallengeScalar.is (c.like.ensures _ carry.scalar)

pub returns-in-ChallengeScalars : goal.returns-in-ChallengeScalars
returns-in-ChallengeScalars g c = λ carry. rw c.in-ChallengeScalars.is (c.like-in-ChallengeScalars.ensures _ carry.scalar)

pub returns-in-ChallengeExtension : goal.returns-in-ChallengeExtension
returns-in-ChallengeExtension g c = λ carry. rw c.in-ChallengeExtension.is (c.like-in-ChallengeExtension.ensures _ carry.extension)

pub returns-in-ChallengeExtensions : goal.returns-in-ChallengeExtensions
returns-in-ChallengeExtensions g c = λ carry. rw c.in-ChallengeExtensions.is (c.like-in-ChallengeExtensions.ensures _ carry.extension)

pub returns-in-ChallengeExtensionsRejecting : goal.returns-in-ChallengeExtensionsRejecting
returns-in-ChallengeExtensionsRejecting g c = λ carry. rw c.in-ChallengeExtensionsRejecting.is (c.like-in-ChallengeExtensionsRejecting.ensures _ carry.extension)
