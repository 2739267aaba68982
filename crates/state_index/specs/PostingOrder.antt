-- The order of postings: by place, and then by row.
use Rattle.std.specs.declared.cmp.Ordering.{Ordering}
use Rattle.std.specs.Ordering.{ordering_then, nat_cmp}
use Rattle.state_index.specs.declared.posting.Posting.{Posting}

-- compares two postings: by place, and then by row
abbrev pub posting_cmp : Posting → Posting → Ordering
posting_cmp a b = ordering_then (nat_cmp a.place b.place) (nat_cmp a.at b.at)
