-- In each call that `step` makes, the ghost value `format` is the format of the text.
use Rattle.state_text.proofs.steps.step.Given as goal

abbrev pub ghost-after_horizon : goal.ghost-after_horizon
ghost-after_horizon g a = g.meant

abbrev pub ghost-after_item : goal.ghost-after_item
ghost-after_item g a = g.meant

abbrev pub ghost-after_tag : goal.ghost-after_tag
ghost-after_tag g a = g.meant

abbrev pub ghost-after_key : goal.ghost-after_key
ghost-after_key g a = g.meant

abbrev pub ghost-after_stamp : goal.ghost-after_stamp
ghost-after_stamp g a = g.meant

abbrev pub ghost-after_tiploc_body : goal.ghost-after_tiploc_body
ghost-after_tiploc_body g a = g.meant

abbrev pub ghost-after_assoc_body : goal.ghost-after_assoc_body
ghost-after_assoc_body g a = g.meant

abbrev pub ghost-after_line_count : goal.ghost-after_line_count
ghost-after_line_count g a = g.meant

abbrev pub ghost-after_last_line : goal.ghost-after_last_line
ghost-after_last_line g a = g.meant
