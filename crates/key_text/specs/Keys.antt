-- The keys of questions that are answered from outside (this project's own): compact JSON texts with members in
-- ascending order, as a value that was read has them, null members among them.
use Rattle.std.specs.Prelude.{◌≡◌, ℕ, List, [], ◌∷◌, codes, false, if◌then◌else◌}
use Rattle.std.specs.Str.{bytes_eq}
use Rattle.serde_json.specs.Data.{Data, string, array, object, Items, no_items, item, Members, no_members, member, put}
use Rattle.serde_json.specs.Written.{compact_text, has_float}

-- the members but those of that name
abbrev pub other_members : List ℕ → Members → Members
other_members name no_members = no_members
other_members name (member k d ms) = if bytes_eq k name then other_members name ms else member k d (other_members name ms)

-- the members, with another value for that name
abbrev pub changed_members : List ℕ → Data → Members → Members
changed_members name value no_members = no_members
changed_members name value (member k d ms) = if bytes_eq k name then member k value (changed_members name value ms) else member k d (changed_members name value ms)

-- an object without the member of that name
abbrev pub without : List ℕ → Data → Data
without name (object ms) = object (other_members name ms)
without name d = d

-- an object with another value for the member of that name, which it has
abbrev pub with_value : List ℕ → Data → Data → Data
with_value name value (object ms) = object (changed_members name value ms)
with_value name value d = d

-- a statement of that kind, whose value is `found`, without the statement that it is scoped down to
abbrev pub unscoped : List ℕ → Data → Data → Data
unscoped kind found d = with_value kind (without (codes "ScopeDownStatement") found) d

-- a byte match, whose value is `found`, with that text for its search string
abbrev pub with_search : List ℕ → Data → Data → Data
with_search text found d = with_value (codes "ByteMatchStatement") (with_value (codes "SearchString") (string text) found) d

-- an object with that value for the member of that name: in place of the one it has, or else among the others by name
abbrev pub with_member : List ℕ → Data → Data → Data
with_member name value (object ms) = object (put name value ms)
with_member name value d = d

-- texts as the elements of a JSON list
abbrev pub text_items : List (List ℕ) → Items
text_items [] = no_items
text_items (text ∷ texts) = item (string text) (text_items texts)

-- a reference to a pattern set with the patterns of the set beside it, in place of a null member of that name
abbrev pub with_patterns : List (List ℕ) → Data → Data
with_patterns texts d = with_member (codes "RegularExpressionList") (array (text_items texts)) d

-- what the key of a rate-based statement tells: the name of the rule's group, empty for a rule of a web ACL, the rule's
-- name, and the statement
abbrev pub rate_statement : List ℕ → List ℕ → Data → Data
rate_statement group rule d =
    object (member (codes "Group") (string group) (member (codes "Rule") (string rule) (member (codes "Statement") d no_members)))

-- the text is the compact JSON of the value, told where that holds no number but whole ones
abbrev pub IsTextOf : List ℕ → Data → Type 0
IsTextOf text d = has_float d ≡ false → text ≡ compact_text d
