-- For private clauses: members of which one has another value, or none, told by what that value holds or how it is
-- written.
use Rattle.std.specs.Prelude.{ℕ, List, [], ◌∷◌, ◌++◌, Bool, true, false, ◌||◌, if◌then◌else◌, Option, Some, None, codes}
use Rattle.std.specs.Str.{bytes_eq}
use Rattle.json.specs.Print.{quoted}
use Rattle.serde_json.specs.Data.{Data, Members, no_members, member, put}
use Rattle.serde_json.specs.Written.{compact_text, has_float, comma_if, members_text}

-- a value holds a float, where `other` says whether the value for that name does
abbrev pub edited_has_float : Bool → List ℕ → Members → Bool
edited_has_float other name no_members = false
edited_has_float other name (member k d ms) = (if bytes_eq k name then other else has_float d) || edited_has_float other name ms

-- a member with its value as it is written, or nothing where there is none, and what stands after it, by whether a
-- member stands before
abbrev pub written_member : Bool → List ℕ → Option (List ℕ) → (Bool → List ℕ) → List ℕ
written_member later name None rest = rest later
written_member later name (Some value) rest = comma_if later ++ (quoted name ++ 58 ∷ (value ++ rest true))

-- the members as they are written, with the closing bracket, where `other` is written for the value for that name
abbrev pub edited_text : Option (List ℕ) → List ℕ → Members → Bool → List ℕ
edited_text other name no_members later = 125 ∷ []
edited_text other name (member k d ms) later = written_member later k (if bytes_eq k name then other else Some (compact_text d)) (edited_text other name ms)

-- the three members of a rate-based statement's key as they are written
abbrev pub rate_members : List ℕ → List ℕ → List ℕ → List ℕ
rate_members group rule statement =
    123 ∷ written_member false (codes "Group") (Some group)
    (λ after. written_member after (codes "Rule") (Some rule)
    (λ last. written_member last (codes "Statement") (Some statement) (λ _. 125 ∷ [])))

-- the members that are left as they are written, with the closing bracket and, where it isn't placed yet, with that value
-- for the member of that name
abbrev pub rest_text : Bool → Bool → List ℕ → Data → Members → List ℕ
rest_text placed later name value ms = members_text later (if placed then ms else put name value ms)
