-- The texts of answers that are no outcome, no review and no impact (this project's own). Each is one line that ends in a newline.
use Rattle.std.specs.Prelude.{ℕ, List, [], ◌++◌, codes, decimal}
use Rattle.waf_model.specs.declared.read_fault.ReadFault.{ReadFault}
use Rattle.waf_model.specs.declared.read_fault.ReadFault.TheVariants.{Json, Shape, Number, Name, SamePriority, Action, Nested, Missing, Base64, Address, Limit, Namespace, OneStatement, NotBuilt, Memory}
use Rattle.wafreview_run.specs.declared.role.Role.{Role}
use Rattle.wafreview_run.specs.declared.role.Role.TheVariants.{Bundle, Request, Answers, Old, New, Log}

-- a role's name
abbrev pub role_name : Role → List ℕ
role_name Bundle = codes "bundle"
role_name Request = codes "request"
role_name Answers = codes "answers"
role_name Old = codes "old"
role_name New = codes "new"
role_name Log = codes "log"

-- words outside the grammar
abbrev pub usage_text : List ℕ
usage_text = codes "usage: wafreview evaluate BUNDLE REQUEST [ANSWERS] | capacity BUNDLE | keys BUNDLE | review OLD NEW [--nodes N] | generate K | impact OLD NEW LOG [ANSWERS]\n"

-- a file that was not read
abbrev pub unread_text : Role → List ℕ
unread_text role = codes "read fault " ++ role_name role ++ codes "\n"

-- a file that is too long
abbrev pub too_long_text : Role → List ℕ
too_long_text role = codes "too long " ++ role_name role ++ codes "\n"

-- want of memory
abbrev pub memory_text : List ℕ
memory_text = codes "memory\n"

-- a fault's code and detail; want of memory is never printed so
abbrev pub fault_text : ReadFault → List ℕ
fault_text Json = codes "E1"
fault_text (Shape path) = codes "E2 " ++ path
fault_text (Number path) = codes "E3 " ++ path
fault_text (Name path) = codes "E4 " ++ path
fault_text (SamePriority priority) = codes "E5 " ++ decimal priority
fault_text (Action path) = codes "E6 " ++ path
fault_text (Nested path) = codes "E7 " ++ path
fault_text (Missing arn) = codes "E8 " ++ arn
fault_text (Base64 path) = codes "E9 " ++ path
fault_text (Address path) = codes "E10 " ++ path
fault_text (Limit path limit) = codes "E11 " ++ path ++ codes " " ++ decimal limit
fault_text (Namespace path) = codes "E12 " ++ path
fault_text (OneStatement path) = codes "E13 " ++ path
fault_text (NotBuilt path) = codes "E0 " ++ path
fault_text Memory = []

-- a text with a fault
abbrev pub refused_text : Role → ReadFault → List ℕ
refused_text role fault = codes "refused " ++ role_name role ++ codes " " ++ fault_text fault ++ codes "\n"

-- a line of a log with a fault, by its number
abbrev pub refused_line_text : ℕ → ReadFault → List ℕ
refused_line_text number fault = codes "refused log:" ++ decimal number ++ codes " " ++ fault_text fault ++ codes "\n"
