-- The text that a taker has taken, and the bytes left in the source that feeds the taker. The
-- settings of a taker, such as a limit on its text, stay the same while the taker takes the text.
use Rattle.std.specs.Prelude.{◌≡◌, ℕ, ◌≤◌, List, ◌++◌, length, Option}
use Rattle.cif_device.specs.Device.{Reads}

-- a relation between a taker, its settings and a text. The relation says that the taker has taken
-- the text with these settings
abbrev pub Taking : Type 0 → Type 0 → Type 1
Taking T S = T → S → List ℕ → Type 0

-- a relation between a taker, its settings, a text, a piece and a fault. The relation says that the
-- taker took the text and then refused the piece with this fault
abbrev pub Refusing : Type 0 → Type 0 → Type 0 → Type 1
Refusing T S Fault = T → S → List ℕ → List ℕ → Fault → Type 0

-- there are a text and settings such that the taker has taken the text with these settings
pub record IsTaking {T S : Type 0} (takes : Taking T S) (taker : T) : Type 0 where
  pub settings : S
  pub text : List ℕ
  pub taken : takes taker settings text

-- the property `holds` is true of each text that the taker has taken, with the settings with which
-- the taker has taken the text
abbrev pub AfterEach : {T S : Type 0} → Taking T S → T → (S → List ℕ → Type 0) → Type 0
AfterEach {S = S} takes taker holds = (settings : S) (text : List ℕ) → takes taker settings text → holds settings text

-- the source returned this number of bytes, and the taker has taken these bytes after the text
pub record HasFed {T S : Type 0} (takes : Taking T S) (count : ℕ) (settings : S) (text : List ℕ) (old new : Option (List ℕ)) (taker : T) : Type 0 where
  pub bytes : List ℕ
  pub size : length bytes ≡ count
  pub lost : Reads old bytes new
  pub taken : takes taker settings (text ++ bytes)

-- the source returned bytes, and then one more piece of at most `most` bytes. There is a taker that
-- has taken the text followed by these bytes, but not the piece. So at most one piece of the source
-- is lost
pub record LosesOnePieceMore {T S : Type 0} (takes : Taking T S) (most : ℕ) (settings : S) (text : List ℕ) (old new : Option (List ℕ)) : Type 0 where
  pub bytes : List ℕ
  pub piece : List ℕ
  pub lost : Reads old (bytes ++ piece) new
  pub few : length piece ≤ most
  pub taker : T
  pub taken : takes taker settings (text ++ bytes)

-- the source returned bytes, and then one more piece of at most `most` bytes. The taker took the
-- text followed by these bytes, and then refused the piece with this fault
pub record HasRefused {T S Fault : Type 0} (takes : Taking T S) (refuses : Refusing T S Fault) (most : ℕ) (settings : S) (text : List ℕ)
    (old new : Option (List ℕ)) (taker : T) (fault : Fault) : Type 0 where
  pub more : LosesOnePieceMore takes most settings text old new
  pub refused : refuses taker settings (text ++ more.bytes) more.piece fault
