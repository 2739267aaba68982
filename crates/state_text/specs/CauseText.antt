-- The names of causes, as they are printed in the text of a fault.
use Rattle.std.specs.Prelude.{ℕ, List, codes}
use Rattle.state_text.specs.declared.cause.StateCause.{StateCause}
use Rattle.state_text.specs.declared.cause.StateCause.TheVariants.{Mark, Item, Order, Floor, Tag, Stamp, Body, Short, Tail, Long, Memory, Horizon}

-- the name of a cause, as it is printed in the text of a fault
abbrev pub cause_text : StateCause → List ℕ
cause_text Mark = codes "Mark"
cause_text Item = codes "Item"
cause_text Order = codes "Order"
cause_text Floor = codes "Floor"
cause_text Tag = codes "Tag"
cause_text Stamp = codes "Stamp"
cause_text Body = codes "Body"
cause_text Short = codes "Short"
cause_text Tail = codes "Tail"
cause_text Long = codes "Long"
cause_text Memory = codes "Memory"
cause_text Horizon = codes "Horizon"
