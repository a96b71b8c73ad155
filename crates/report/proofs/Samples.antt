-- Two reports of document 01's sample sheet, computed from their numbers.
use Rattle.std.proofs.Common.{◌≡◌, refl, true, false, [], ◌∷◌}
use Rattle.preference.specs.Named.{named}
use Rattle.table.specs.Encoding.{u16, u32, record_of, encode_numbers}
use Rattle.report.specs.Report.{conflict_kind, report_body, report_bytes}
use Rattle.report.specs.Samples.{conflict_h, conflict_a}

-- row H: the order is 2 4 1 3, and request 1 is not in the conflict
pub report_H : report_bytes conflict_kind 1 8 (named (2 ∷ 4 ∷ 1 ∷ 3 ∷ []) (true ∷ true ∷ false ∷ true ∷ [])) ≡ conflict_h
unfolding report_bytes report_body record_of encode_numbers u32 u16 named
report_H = refl

-- row A: no requests
pub report_A : report_bytes conflict_kind 0 1 (named [] []) ≡ conflict_a
unfolding report_bytes report_body record_of encode_numbers u32 u16 named
report_A = refl
