use Rattle.sessions.proofs.run_room.make_room.Goals as goal

-- one field by its name: then each other one is sought by itself
pub invariant_of-result-clause-registry_is : goal.invariant_of-result-clause-registry_is
invariant_of-result-clause-registry_is g c = c.requires.registry
