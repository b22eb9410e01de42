-- A member that is left out, or has another value, is written as the members are without it or with that value.
use Rattle.std.proofs.Common.{◌≡◌, ℕ, List, ◌∷◌, ◌++◌, Bool, true, false, ◌||◌, if◌then◌else◌, Option, Some, None, refl, ap, ◌∙◌}
use Rattle.std.proofs.lemmas.Bool.{or_parts}
use Rattle.std.specs.Str.{bytes_eq}
use Rattle.json.specs.Print.{quoted}
use Rattle.key_text.specs.Edited.{edited_text, rate_members, written_member}
use Rattle.key_text.specs.Keys.{IsTextOf, rate_statement, other_members, changed_members, without, with_member, with_value}
use Rattle.serde_json.specs.Data.{Data, null, boolean, number, string, array, object, Members, no_members, member, put}
use Rattle.serde_json.specs.Find.{as_object}
use Rattle.serde_json.specs.Written.{compact_text, comma_if, has_float, members_have_float, members_text}

-- the text of the rest, by whether a member stands before
abbrev Rest : Type 0
Rest = Bool → List ℕ

left_out : (b later : Bool) (k : List ℕ) (d : Data) (others : Members) (rest : Rest) → ((l : Bool) → rest l ≡ members_text l others)
    → written_member later k (if b then None else Some (compact_text d)) rest ≡ members_text later (if b then others else member k d others)
left_out true later k d others rest e = e later
left_out false later k d others rest e = ap (λ r. comma_if later ++ (quoted k ++ 58 ∷ (compact_text d ++ r))) (e true)

members_without : (name : List ℕ) (ms : Members) (later : Bool) → edited_text None name ms later ≡ members_text later (other_members name ms)
members_without name no_members later = refl
members_without name (member k d ms) later = left_out (bytes_eq k name) later k d (other_members name ms) (edited_text None name ms) (members_without name ms)

exchanged : (b later : Bool) (k : List ℕ) (d value : Data) (written : List ℕ) (changed : Members) (rest : Rest) → IsTextOf written value
    → ((l : Bool) → members_have_float changed ≡ false → rest l ≡ members_text l changed)
    → members_have_float (if b then member k value changed else member k d changed) ≡ false
    → written_member later k (if b then Some written else Some (compact_text d)) rest ≡ members_text later (if b then member k value changed else member k d changed)
exchanged true later k d value written changed rest is e whole =
    let parts = or_parts (has_float value) (members_have_float changed) whole in
    ap (λ w. comma_if later ++ (quoted k ++ 58 ∷ (w ++ rest true))) (is parts.0)
    ∙ ap (λ r. comma_if later ++ (quoted k ++ 58 ∷ (compact_text value ++ r))) (e true parts.1)
exchanged false later k d value written changed rest is e whole =
    let parts = or_parts (has_float d) (members_have_float changed) whole in
    ap (λ r. comma_if later ++ (quoted k ++ 58 ∷ (compact_text d ++ r))) (e true parts.1)

rest_whole : (b : Bool) (k : List ℕ) (d value : Data) (changed : Members) → members_have_float (if b then member k value changed else member k d changed) ≡ false → members_have_float changed ≡ false
rest_whole true k d value changed whole = (or_parts (has_float value) (members_have_float changed) whole).1
rest_whole false k d value changed whole = (or_parts (has_float d) (members_have_float changed) whole).1

members_with : (name : List ℕ) (value : Data) (written : List ℕ) (ms : Members) (later : Bool) → IsTextOf written value
    → members_have_float (changed_members name value ms) ≡ false → edited_text (Some written) name ms later ≡ members_text later (changed_members name value ms)
members_with name value written no_members later is whole = refl
members_with name value written (member k d ms) later is whole =
    exchanged (bytes_eq k name) later k d value written (changed_members name value ms) (edited_text (Some written) name ms) is
    (λ l h. members_with name value written ms l is h) whole

-- where nothing holds a float with another value, nothing does without that member
others_whole_at : (b : Bool) (k : List ℕ) (d value : Data) (changed others : Members) → (members_have_float changed ≡ false → members_have_float others ≡ false)
    → members_have_float (if b then member k value changed else member k d changed) ≡ false → members_have_float (if b then others else member k d others) ≡ false
others_whole_at true k d value changed others e whole = e (or_parts (has_float value) (members_have_float changed) whole).1
others_whole_at false k d value changed others e whole =
    let parts = or_parts (has_float d) (members_have_float changed) whole in
    ap (λ r. r || members_have_float others) parts.0 ∙ e parts.1

others_whole : (name : List ℕ) (value : Data) (ms : Members) → members_have_float (changed_members name value ms) ≡ false → members_have_float (other_members name ms) ≡ false
others_whole name value no_members whole = refl
others_whole name value (member k d ms) whole = others_whole_at (bytes_eq k name) k d value (changed_members name value ms) (other_members name ms) (others_whole name value ms) whole

-- the text of the edited members of that object
abbrev pub IsEdited : Option (List ℕ) → List ℕ → Members → List ℕ → Type 0
IsEdited other name ms text = members_have_float (other_members name ms) ≡ false → text ≡ 123 ∷ edited_text other name ms false

pub object_without : (name : List ℕ) (d : Data) (ms : Members) (text : List ℕ) → Some ms ≡ as_object d → IsEdited None name ms text → IsTextOf text (without name d)
object_without name null ms text e is = cc
object_without name (boolean b) ms text e is = cc
object_without name (number n) ms text e is = cc
object_without name (string s) ms text e is = cc
object_without name (array ds) ms text e is = cc
object_without name (object ns) ms text e is =
    let same : ms ≡ ns = cc in
    let there : IsEdited None name ns text = rw same at is in
    λ whole. there whole ∙ ap (λ r. 123 ∷ r) (members_without name ns false)

pub object_with : (name : List ℕ) (value d : Data) (ms : Members) (written text : List ℕ) → Some ms ≡ as_object d → IsTextOf written value → IsEdited (Some written) name ms text → IsTextOf text (with_value name value d)
object_with name value null ms written text e is of = cc
object_with name value (boolean b) ms written text e is of = cc
object_with name value (number n) ms written text e is of = cc
object_with name value (string s) ms written text e is of = cc
object_with name value (array ds) ms written text e is of = cc
object_with name value (object ns) ms written text e is of =
    let same : ms ≡ ns = cc in
    let there : IsEdited (Some written) name ns text = rw same at of in
    λ whole. there (others_whole name value ns whole) ∙ ap (λ r. 123 ∷ r) (members_with name value written ns false is whole)

pub rate_written : (group rule : List ℕ) (statement : Data) {quoted_group quoted_rule written key : List ℕ} → quoted_group ≡ quoted group → quoted_rule ≡ quoted rule → IsTextOf written statement
    → key ≡ rate_members quoted_group quoted_rule written → IsTextOf key (rate_statement group rule statement)
rate_written group rule statement as_group as_rule as_statement as_key =
    λ whole. as_key ∙ rw (as_group, as_rule, as_statement (or_parts (has_float statement) false whole).0) refl

pub object_put : (name : List ℕ) (value d : Data) (ms : Members) (text : List ℕ) → Some ms ≡ as_object d → (members_have_float ms ≡ false → text ≡ 123 ∷ members_text false (put name value ms))
    → has_float d ≡ false → text ≡ compact_text (with_member name value d)
object_put name value null ms text e is whole = cc
object_put name value (boolean b) ms text e is whole = cc
object_put name value (number n) ms text e is whole = cc
object_put name value (string s) ms text e is whole = cc
object_put name value (array ds) ms text e is whole = cc
object_put name value (object ns) ms text e is whole =
    let same : ms ≡ ns = cc in
    let there : members_have_float ns ≡ false → text ≡ 123 ∷ members_text false (put name value ns) = rw same at is in
    there whole
