use Rattle.p3_script.proofs.alike.play_alike.Goals as goal

pub returns-in-Begin : goal.returns-in-Begin
returns-in-Begin g c = rw c.in-Begin.is c.begin.ensures

pub returns-in-End : goal.returns-in-End
returns-in-End g c = rw c.in-End.is c.end.ensures

pub returns-in-ObserveExtension : goal.returns-in-ObserveExtension
returns-in-ObserveExtension g c = rw c.in-ObserveExtension.is c.observe_extension.ensures

pub returns-in-Opaque : goal.returns-in-Opaque
returns-in-Opaque g c = rw c.in-Opaque.is c.observe_opaque.ensures
