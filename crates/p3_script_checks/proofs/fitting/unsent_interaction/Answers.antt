use Rattle.std.proofs.Common.{rules, ◌≡◌, length}
use Rattle.p3_script_checks.proofs.fitting.unsent_interaction.Goals as goal

pub returns-in-PublicScalar : goal.returns-in-PublicScalar
returns-in-PublicScalar g c = λ carry. rw c.in-PublicScalar.is (c.like.ensures _ carry.scalar)

pub returns-in-PublicScalars : goal.returns-in-PublicScalars
returns-in-PublicScalars g c =
    let long : c.len.result ≡ length c.in-PublicScalars.values.items = search rules in
    λ carry. rw (c.in-PublicScalars.is, ← long) (c.like-in-PublicScalars.ensures _ carry.scalar)

pub returns-in-PublicScalarsBounded : goal.returns-in-PublicScalarsBounded
returns-in-PublicScalarsBounded g c = λ carry. rw c.in-PublicScalarsBounded.is (c.like-in-PublicScalarsBounded.ensures _ carry.scalar)

pub returns-in-ObserveExtension : goal.returns-in-ObserveExtension
returns-in-ObserveExtension g c = λ carry. rw c.in-ObserveExtension.is (c.like-in-ObserveExtension.ensures _ carry.extension)

pub returns-in-ObserveExtensions : goal.returns-in-ObserveExtensions
returns-in-ObserveExtensions g c =
    let long : c.len-in-ObserveExtensions.result ≡ length c.in-ObserveExtensions.values.items = search rules in
    λ carry. rw (c.in-ObserveExtensions.is, ← long)
    (c.like-in-ObserveExtensions.ensures _ carry.extension)

pub returns-in-ObserveExtensionsBounded : goal.returns-in-ObserveExtensionsBounded
returns-in-ObserveExtensionsBounded g c = λ carry. rw c.in-ObserveExtensionsBounded.is (c.like-in-ObserveExtensionsBounded.ensures _ carry.extension)
