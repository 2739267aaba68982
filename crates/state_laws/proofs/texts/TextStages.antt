-- A reader reads a text part by part. The text read is the concatenation of the parts read. Of two
-- different stages of one text, one is later than the other.
use Rattle.cif_laws.proofs.Common.{◌≡◌, ℕ, ◌<◌, List, ◌++◌, length, [], ◌∷◌, ap, ◌∙◌, sym, subst, append_assoc, append-nil, ◌⊎◌, refl, inl, inr, rules, ⊤}
use Rattle.cif_laws.proofs.Common.{concat, Format, Before, text_before, width, StateCause, IsBadPart}
use Rattle.std.proofs.lemmas.List.{append_cancel_left}
use Rattle.state_laws.specs.TextStage.{advance}
use Rattle.cif_laws.proofs.lists.Fronts.{same_front}

-- the bytes `part` are the next part of the text, and the part isn't bad
pub record IsNextPart (format : Format) (before : Before) (part : List ℕ) : Type 0 where
  pub size : length part ≡ width before
  pub some : 0 < width before
  pub not_bad : (cause : StateCause) → ¬ IsBadPart format before part cause
  pub text : text_before format (advance format before part) ≡ text_before format before ++ part

-- each part in the list is a good next part after the parts before it
abbrev pub Follow : (format : Format) → Before → List (List ℕ) → Type 0
Follow format before [] = ⊤
Follow format before (part ∷ parts) = IsNextPart format before part × Follow format (advance format before part) parts

-- the stage after these parts
abbrev pub after_parts : (format : Format) → Before → List (List ℕ) → Before
after_parts format before [] = before
after_parts format before (part ∷ parts) = after_parts format (advance format before part) parts

-- a reader gets from the stage `before` to the stage `after`, part by part, and no part is bad
pub record Leads (format : Format) (before after : Before) : Type 0 where
  pub parts : List (List ℕ)
  pub follow : Follow format before parts
  pub to : after_parts format before parts ≡ after

-- a reader gets from any stage to the same stage without reading a part
pub no_step : (format : Format) → (before after : Before) → before ≡ after → Leads format before after
no_step format before after same = record { parts = []; follow = tt; to = same }

-- if a part isn't bad, it leads a reader from the stage before the part to the stage after the part
pub one_step : (format : Format) → (before after : Before) (part : List ℕ) → length part ≡ width before → 0 < width before
    → ((cause : StateCause) → ¬ IsBadPart format before part cause) → advance format before part ≡ after
    → text_before format after ≡ text_before format before ++ part → Leads format before after
one_step format before after part size some not_bad to text = record {
  parts = part ∷ [];
  follow = (record { size = size; some = some; not_bad = not_bad; text = ap (text_before format) to ∙ text }, tt);
  to = to;
}

-- the relation `Leads` is transitive
pub then_leads : (format : Format) → (before between after : Before) → Leads format before between → Leads format between after → Leads format before after
then_leads format before between after first second = by before first.parts first.follow first.to
  where
    by : (from : Before) (parts : List (List ℕ)) → Follow format from parts → after_parts format from parts ≡ between → Leads format from after
    by from [] follow to = subst (λ x. Leads format x after) (sym to) second
    by from (part ∷ parts) follow to =
        let rest = by (advance format from part) parts follow.1 to in
        record { parts = part ∷ rest.parts; follow = (follow.0, rest.follow); to = rest.to }

-- the text up to and including these parts is the text before them, followed by the concatenation
-- of the parts
pub after_text : (format : Format) → (before : Before) (parts : List (List ℕ)) → Follow format before parts
    → text_before format (after_parts format before parts) ≡ text_before format before ++ concat parts
after_text format before [] follow = sym (append-nil (text_before format before))
after_text format before (part ∷ parts) follow =
    after_text format (advance format before part) parts follow.1 ∙ ap (λ front. front ++ concat parts) follow.0.text
    ∙ append_assoc (text_before format before) part (concat parts)

-- the stage `after` is later than the stage `before`. The text read at `after` is the text read at
-- `before`, followed by the next part and any further bytes
pub record IsLater (format : Format) (before after : Before) : Type 0 where
  pub part : List ℕ
  pub more : List ℕ
  pub is_next : IsNextPart format before part
  pub text : text_before format after ≡ text_before format before ++ part ++ more

-- two stages are equal, or one is later than the other
abbrev pub AreInLine : (format : Format) → Before → Before → Type 0
AreInLine format first second = (first ≡ second) ⊎ (IsLater format first second ⊎ IsLater format second first)

in_line_from : (format : Format) → (from : Before) (parts others : List (List ℕ)) (rest more : List ℕ) → Follow format from parts → Follow format from others
    → concat parts ++ rest ≡ concat others ++ more → AreInLine format (after_parts format from parts) (after_parts format from others)
in_line_from format from [] [] rest more f g same = inl refl
in_line_from format from [] (other ∷ others) rest more f g same =
    inr (inl (record {
      part = other;
      more = concat others;
      is_next = g.0;
      text = search (rules, after_text);
    }))
in_line_from format from (part ∷ parts) [] rest more f g same =
    inr (inr (record {
      part = part;
      more = concat parts;
      is_next = f.0;
      text = search (rules, after_text);
    }))
in_line_from format from (part ∷ parts) (other ∷ others) rest more f g same =
    let told = same_front part other (concat parts ++ rest) (concat others ++ more) (f.0.size ∙ sym g.0.size)
    (sym (append_assoc part (concat parts) rest) ∙ same ∙ append_assoc other (concat others) more) in
    subst (λ v. Follow format (advance format from v) others → AreInLine format (after_parts format (advance format from part) parts)
    (after_parts format (advance format from v) others)) told.0
    (λ follow. in_line_from format (advance format from part) parts others rest more f.1 follow told.1) g.1

-- two stages that a reader reaches in one text are equal, or one is later than the other
pub in_line : (format : Format) → (from first second : Before) (rest more : List ℕ) → Leads format from first → Leads format from second
    → text_before format first ++ rest ≡ text_before format second ++ more → AreInLine format first second
in_line format from first second rest more one two same = search (rules, after_text, append_cancel_left, append_assoc, in_line_from)
