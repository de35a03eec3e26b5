use Rattle.sessions.proofs.Imports.{forks_of}
use Rattle.sessions.proofs.context.RunContext.another.Goals as goal

pub another-requires-clause-rule : goal.another-requires-clause-rule
another-requires-clause-rule g c = forks_of (λ t. t.job) _ _ c.requires.two
