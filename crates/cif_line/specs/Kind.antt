-- Converts kinds of record from the code's type to the definitions' type.
use Rattle.docker_model.specs.records.Record.{header, tiploc_insert, tiploc_amend, tiploc_delete, association, basic_schedule, extra_details}
use Rattle.docker_model.specs.records.Record.{origin_location, intermediate_location, terminating_location, change_en_route, trailer}
use Rattle.docker_model.specs.records.Record as model
use Rattle.cif_line.specs.declared.kind_of_record.Kind.{Kind}
use Rattle.cif_line.specs.declared.kind_of_record.Kind.TheVariants.{Header, TiplocInsert, TiplocAmend, TiplocDelete, Association, BasicSchedule, ExtraDetails}
use Rattle.cif_line.specs.declared.kind_of_record.Kind.TheVariants.{OriginLocation, IntermediateLocation, TerminatingLocation, ChangeEnRoute, Trailer}

-- converts a kind of record from the code's type to the definitions' type
abbrev pub meaning : Kind → model.Kind
meaning Header = header
meaning TiplocInsert = tiploc_insert
meaning TiplocAmend = tiploc_amend
meaning TiplocDelete = tiploc_delete
meaning Association = association
meaning BasicSchedule = basic_schedule
meaning ExtraDetails = extra_details
meaning OriginLocation = origin_location
meaning IntermediateLocation = intermediate_location
meaning TerminatingLocation = terminating_location
meaning ChangeEnRoute = change_en_route
meaning Trailer = trailer
