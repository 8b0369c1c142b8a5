-- How a read of the next record follows the records that are left.
use Rattle.std.proofs.Common.{◌≡◌, ℕ, zero, suc, ◌+◌, ◌<◌, ◌⊎◌, Bool, true, false, if◌then◌else◌, List, [], ◌∷◌, ◌++◌, length, take, drop, not, ◌==◌, ◌&&◌, Option, Some, None, Result, Ok, Err, IfOk, IfErr, OnOk, refl, sym, ap, ◌∙◌, inl, inr, arith, Bor}
use Rattle.csv.specs.Machine.{Read, ends_at_end, field_after, fields_after, is_end, next_record, step}
use Rattle.csv.specs.Reading.{ExplainsRead, Reached, ReadRecord, ReadsOn, Ready, default_config, error_kind, has_failed, is_flexible, reader_trim, records_from, records_next, source_of, stops_reader, strip_bom, took_first}
use Rattle.csv.specs.declared.error.Error.{Error}
use Rattle.csv.specs.declared.error.ErrorKind.{ErrorKind}
use Rattle.csv.specs.declared.error.ErrorKind.TheVariants as kind
use Rattle.csv.specs.declared.parser.Config.{Config}
use Rattle.csv.specs.declared.parser.State.{State}
use Rattle.csv.specs.declared.parser.State.TheVariants as st
use Rattle.csv.specs.declared.reader.Reader.{Reader}
use Rattle.csv.specs.declared.reader.Trim.TheVariants as trim
use Rattle.std.proofs.lemmas.Bool.{cases_Bool}
use Rattle.csv.proofs.ReadFacts.{rows-end, rows-more}
use Rattle.csv_facts.specs.RecordList.{IsFileReader, IsNext, IsWant, ReadsFile, records_before, records_in}

-- Behind a record there are fewer bytes, or the text is at its end.
abbrev IsBehind : Read → List ℕ → Type 0
IsBehind p bytes = (length p.2 < length bytes) ⊎ ((p.1 ≡ st.StartRecord) × (p.2 ≡ []))

behind-cons : (p : Read) (b : ℕ) (bytes : List ℕ) → IsBehind p bytes → IsBehind p (b ∷ bytes)
behind-cons p b bytes (inl less) = inl (omega arith)
behind-cons p b bytes (inr end) = inr end

next_record-behind : (cfg : Config) (s : State) (fields : List (List ℕ)) (field bytes : List ℕ) (p : Read) → next_record cfg s fields field bytes ≡ Some p → IsBehind p bytes
unfolding next_record
next_record-behind cfg s fields field [] p e = either (ends_at_end s) e
  where
    either : (b : Bool) → (if b then Some (fields ++ (field ∷ []), st.StartRecord, []) else None) ≡ Some p → IsBehind p []
    either true e = let same : (fields ++ (field ∷ []), st.StartRecord, []) ≡ p = cc in rw (← same) (inr (refl, refl))
    either false e = cc
next_record-behind cfg s fields field (c ∷ bytes) p e =
    either (is_end (step cfg s c).1) e (next_record-behind cfg (step cfg s c).0 (fields_after (step cfg s c).1 fields field) (field_after (step cfg s c).1 c field) bytes p)
  where
    after : Option Read
    after = next_record cfg (step cfg s c).0 (fields_after (step cfg s c).1 fields field) (field_after (step cfg s c).1 c field) bytes

    either : (b : Bool) → (if b then Some (fields_after (step cfg s c).1 fields field, (step cfg s c).0, bytes) else after) ≡ Some p
        → (after ≡ Some p → IsBehind p bytes) → IsBehind p (c ∷ bytes)
    either true e later = let same : (fields_after (step cfg s c).1 fields field, (step cfg s c).0, bytes) ≡ p = cc in rw (← same) (inl (omega arith))
    either false e later = behind-cons p c bytes (later e)

-- no record is left at the end of a text
pub records_from-end : (cfg : Config) (n : ℕ) → records_from cfg n st.StartRecord [] ≡ []
unfolding records_from next_record
records_from-end cfg zero = refl
records_from-end cfg (suc n) = refl

-- more turns than there are bytes give no more records
records_from-enough : (cfg : Config) (n m : ℕ) (s : State) (bytes : List ℕ) → length bytes < n → length bytes < m → records_from cfg n s bytes ≡ records_from cfg m s bytes
unfolding records_from
records_from-enough cfg zero m s bytes a b = absurd (omega arith)
records_from-enough cfg (suc n) zero s bytes a b = absurd (omega arith)
records_from-enough cfg (suc n) (suc m) s bytes a b = either (next_record cfg s [] [] bytes) refl (records_from-enough cfg n m)
  where
    either : (found : Option Read) → next_record cfg s [] [] bytes ≡ found
        → ((s : State) (bytes : List ℕ) → length bytes < n → length bytes < m → records_from cfg n s bytes ≡ records_from cfg m s bytes)
        → records_next (records_from cfg n) found ≡ records_next (records_from cfg m) found
    either None e fewer = refl
    either (Some p) e fewer = elim (next_record-behind cfg s [] [] bytes p e) [
      | inl less ↦ ap (λ rows. p.0 ∷ rows) (fewer p.1 p.2 (omega arith) (omega arith))
      | inr end ↦ rw (end.0, end.1, records_from-end cfg n, records_from-end cfg m) refl
    ]

-- the next record is the first of those that are left
pub records_in-next : (s : State) (bytes : List ℕ) (p : Read) → next_record default_config s [] [] bytes ≡ Some p → records_in s (Some bytes) ≡ p.0 ∷ records_in p.1 (Some p.2)
unfolding records_from next_record
records_in-next s bytes p e =
    let turns : length bytes + 1 ≡ suc (length bytes) = omega arith in
    elim (next_record-behind default_config s [] [] bytes p e) [
      | inl less ↦ rw (turns, e) (ap (λ rows. p.0 ∷ rows) (records_from-enough default_config (length bytes) (length p.2 + 1) p.1 p.2 less (omega arith)))
      | inr end ↦ rw (turns, e, end.0, end.1, records_from-end default_config (length bytes)) refl
    ]

records_in-none : (s : State) (bytes : List ℕ) → next_record default_config s [] [] bytes ≡ None → records_in s (Some bytes) ≡ []
unfolding records_from
records_in-none s bytes e = let turns : length bytes + 1 ≡ suc (length bytes) = omega arith in rw (turns, e) refl

-- the bytes that a reader of a file has before it
abbrev pub known : Bor (List ℕ) → Option (List ℕ)
known bytes = Some bytes.now

source_of-known : (a : Reader (Bor (List ℕ))) → has_failed a ≡ false → (bytes : List ℕ) × (source_of known a ≡ Some bytes)
source_of-known a going = rw going (either (not a.bom_checked && (a.at == 0) && (a.filled == 0)))
  where
    either : (start : Bool) → (bytes : List ℕ) × ((if start then Some (strip_bom a.rdr.now) else Some (drop a.at (take a.filled a.buffer) ++ a.rdr.now)) ≡ Some bytes)
    either true = (strip_bom a.rdr.now, refl)
    either false = (drop a.at (take a.filled a.buffer) ++ a.rdr.now, refl)

same_records : (s s2 : State) (xs ys : List ℕ) → s ≡ s2 → xs ≡ ys → records_in s (Some xs) ≡ records_in s2 (Some ys)
same_records s s2 xs ys a b = rw (a, b) refl

-- a record that was read is the first of those that were left
next-found : (a b : Reader (Bor (List ℕ))) (fields : List (List ℕ)) → ReadsFile a → has_failed a ≡ false → ReadRecord known a b true fields → records_before a ≡ fields ∷ records_before b
unfolding Reached
next-found a b fields file going read =
    let (bytes, source) = source_of-known a going in
    let (rest, after, reached) = rows-more known a b fields default_config a.state bytes bytes [] file.config source (refl, refl) read in
    let (p, next, first, left) = reached in
    let before : records_before a ≡ records_in a.state (Some bytes) = ap (records_in a.state) source in
    let behind : records_before b ≡ records_in b.state (Some rest) = ap (records_in b.state) after in
    let same = same_records p.1 b.state p.2 rest left.0 left.1 in
    before ∙ records_in-next a.state bytes p next ∙ ap (λ rows. p.0 ∷ rows) (same ∙ sym behind) ∙ ap (λ row. row ∷ records_before b) (sym first)

next-none : (a b : Reader (Bor (List ℕ))) (fields : List (List ℕ)) → ReadsFile a → has_failed a ≡ false → ReadRecord known a b false fields → records_before a ≡ []
next-none a b fields file going read =
    let (bytes, source) = source_of-known a going in
    ap (records_in a.state) source ∙ (records_in-none a.state bytes (rows-end known a b fields default_config bytes file.config source read))

IsNext-read : (a b : Reader (Bor (List ℕ))) (found : Bool) (fields : List (List ℕ)) → ReadsFile a → has_failed a ≡ false → ReadRecord known a b found fields
    → IsNext found (records_before a) fields (records_before b)
IsNext-read a b true fields file going read = next-found a b fields file going read
IsNext-read a b false fields file going read = next-none a b fields file going read

-- a reader that has failed has no record left, and finds none
IsNext-failed : (a b : Reader (Bor (List ℕ))) (found : Bool) (fields : List (List ℕ)) → has_failed a ≡ true → ◌≡◌ {A = Result Bool Error} (Ok found) (Ok false) → IsNext found (records_before a) fields (records_before b)
IsNext-failed a b found fields failed none = let no : found ≡ false = cc in rw (no, failed) refl

-- a reader of a file stays one
pub IsFileReader-read : (a b : Reader (Bor (List ℕ))) (fields : List (List ℕ)) (r : Result Bool Error) → IsFileReader a
    → (reader_trim a ≡ trim.None → OnOk r (took_first b ≡ true))
    → IfOk r (λ found. reader_trim a ≡ trim.None → Ready a → ReadRecord known a b found fields)
    → OnOk r (is_flexible b ≡ is_flexible a)
    → OnOk r (has_failed b ≡ has_failed a)
    → IfErr r (λ e. has_failed b ≡ stops_reader (error_kind e))
    → (has_failed a ≡ true → r ≡ Ok false)
    → IfErr r (λ e. stops_reader (error_kind e) ≡ false → ReadsOn a b)
    → IsFileReader b
IsFileReader-read a b fields (Ok found) file first reads flexible goes fails failed goes_on going =
    let before = file (sym goes ∙ going) in
    let read = reads before.trim before.ready in
    record { config = read.2 ∙ before.config; trim = read.3 ∙ before.trim; flexible = flexible ∙ before.flexible; ready = inl (first before.trim) }
IsFileReader-read a b fields (Err e) file first reads flexible goes fails failed goes_on going = elim (cases_Bool (has_failed a)) [
  | inl stopped ↦ cc (failed stopped)
  | inr still ↦
      let before = file still in
      let on = goes_on (sym fails ∙ going) in
      record { config = on.0 ∙ before.config; trim = on.1 ∙ before.trim; flexible = on.2 ∙ before.flexible; ready = (on.4 before.ready).0 }
]

-- what is taken, where a reader of a file takes something
pub IsNext-taken : (a b : Reader (Bor (List ℕ))) (fields : List (List ℕ)) (found : Bool) → IsFileReader a
    → (reader_trim a ≡ trim.None → Ready a → ReadRecord known a b found fields)
    → (has_failed a ≡ true → ◌≡◌ {A = Result Bool Error} (Ok found) (Ok false))
    → IsNext found (records_before a) fields (records_before b)
IsNext-taken a b fields found file reads failed = elim (cases_Bool (has_failed a)) [
  | inl stopped ↦ IsNext-failed a b found fields stopped (failed stopped)
  | inr still ↦ let before = file still in IsNext-read a b found fields before still (reads before.trim before.ready)
]

-- why it may fail
explained : (a b : Reader (Bor (List ℕ))) (why : ErrorKind) → ReadsFile a → ExplainsRead known a b false why → IsWant why
explained a b kind.OutOfMemory file why = tt
explained a b (kind.Io e) file why = tt
explained a b (kind.Utf8 pos err) file why = cc why.0
explained a b (kind.UnequalLengths pos expected len) file why = cc (sym why.0 ∙ file.flexible)
explained a b (kind.Serialize text) file why = why
explained a b (kind.Deserialize pos err) file why = why

pub IsWant-read : (a b : Reader (Bor (List ℕ))) (e : Error) (r : Result Bool Error) → IsFileReader a → r ≡ Err e
    → (has_failed a ≡ true → r ≡ Ok false)
    → (Ready a → ExplainsRead known a b false (error_kind e))
    → IsWant (error_kind e)
IsWant-read a b e r file refused failed why = elim (cases_Bool (has_failed a)) [
  | inl stopped ↦ cc (sym refused ∙ failed stopped)
  | inr still ↦ let before = file still in explained a b (error_kind e) before (why before.ready)
]
