-- Converts keys, bodies, acts and changes from the code's types to the definitions' types.
use Rattle.docker_model.specs.file.Change.{tiploc_key, association_key, schedule_key, tiploc_body, association_body, schedule_body, delete, put}
use Rattle.docker_model.specs.file.Change as model
use Rattle.cif_line.specs.Letter.{stp_letter}
use Rattle.cif_change.specs.declared.key.AssocKey.{AssocKey}
use Rattle.cif_change.specs.declared.key.ScheduleKey.{ScheduleKey}
use Rattle.cif_change.specs.declared.key.Key.{Key}
use Rattle.cif_change.specs.declared.key.Key.TheVariants as key
use Rattle.cif_change.specs.declared.change.Body.{Body}
use Rattle.cif_change.specs.declared.change.Body.TheVariants as body
use Rattle.cif_change.specs.declared.change.Act.{Act}
use Rattle.cif_change.specs.declared.change.Act.TheVariants as act
use Rattle.cif_change.specs.declared.change.Change.{Change}

-- converts an association's key from the code's type to the definitions' type
abbrev pub association_key_meant : AssocKey → model.AssociationKey
association_key_meant key = record {
  base = key.base;
  associated = key.associated;
  start = key.start;
  location = key.location;
  suffix = key.suffix;
  indicator = stp_letter key.stp;
}

-- converts a schedule's key from the code's type to the definitions' type
abbrev pub schedule_key_meant : ScheduleKey → model.ScheduleKey
schedule_key_meant key = record { uid = key.uid; runs_from = key.runs_from; indicator = stp_letter key.stp }

-- converts a key from the code's type to the definitions' type
abbrev pub key_meant : Key → model.Key
key_meant (key.Tiploc code) = tiploc_key code
key_meant (key.Assoc k) = association_key (association_key_meant k)
key_meant (key.Schedule k) = schedule_key (schedule_key_meant k)

-- converts a body from the code's type to the definitions' type
abbrev pub body_meant : Body → model.Body
body_meant (body.Tiploc bytes) = tiploc_body bytes
body_meant (body.Assoc line) = association_body line
body_meant (body.Schedule lines) = schedule_body lines

-- converts an act from the code's type to the definitions' type
abbrev pub act_meant : Act → model.Act
act_meant act.Delete = delete
act_meant (act.Put b) = put (body_meant b)

-- converts a change from the code's type to the definitions' type
abbrev pub change_meant : Change → model.Change
change_meant c = record { number = c.number; key = key_meant c.key; act = act_meant c.act }
