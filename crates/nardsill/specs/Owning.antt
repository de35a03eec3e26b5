-- What is owned only where a call says so.
use Rattle.std.specs.Prelude.{Bool, true, false}
use base.Fml.{Fml, ftrue}

-- where this is true, that is owned
abbrev pub owned_if : Bool → Fml → Fml
owned_if true owned = owned
owned_if false owned = ftrue
