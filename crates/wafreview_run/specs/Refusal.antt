-- When a text is refused (this project's own): its first fault is printed with its role.
use Rattle.std.specs.Prelude.{ℕ, ◌≡◌, List}
use Rattle.waf_model.specs.declared.read_fault.ReadFault.{ReadFault}
use Rattle.wafreview_run.specs.Texts.{refused_text, refused_line_text}
use Rattle.wafreview_run.specs.declared.role.Role.{Role}

-- a text with a fault is refused
abbrev pub IsRefused : Role → ReadFault → ℕ → List ℕ → Type 0
IsRefused role fault code text = (code ≡ 3) × (text ≡ refused_text role fault)

-- a log is refused, by the number of its first line with a fault
abbrev pub IsLineRefused : ℕ → ReadFault → ℕ → List ℕ → Type 0
IsLineRefused number fault code text = (code ≡ 3) × (text ≡ refused_line_text number fault)
