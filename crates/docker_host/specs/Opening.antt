-- The reason why a file couldn't be opened, or why no draft could be made.
use Rattle.docker_host.specs.declared.folder.OpenFault.{OpenFault}
use Rattle.docker_host.specs.declared.folder.OpenFault.TheVariants as opening

-- chooses one of two values by the fault: the first value if the device failed, the second value if
-- memory ran out
abbrev pub one_of : {A : Type 0} → A → A → OpenFault → A
one_of failed memory opening.Failed = failed
one_of failed memory opening.Memory = memory
