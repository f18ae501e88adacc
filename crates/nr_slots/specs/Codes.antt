-- How what contracts see of the seats is stored.
use Rattle.std.specs.Prelude.{ℕ, List, refl}
use Rattle.std.specs.Coded.{Coded, code_by, coded×, coded_ℕ, coded_list}
use Rattle.atomic_table.specs.Seated.{TableId, table_id_coded}
use Rattle.nr_slots.specs.declared.view.WorkerPast.{WorkerPast}
use Rattle.nr_slots.specs.declared.view.CombinerPast.{CombinerPast}
use Rattle.nr_slots.specs.declared.view.Found.{Found}
use Rattle.nr_slots.specs.contracts.view.WorkerPast as of_lane
use Rattle.nr_slots.specs.contracts.view.CombinerPast as of_desk
use Rattle.nr_slots.specs.contracts.view.Found as of_found
use Rattle.nr_slots.specs.Seats.{WorkerView, CombinerView, NoteView}

abbrev pub worker_code : Coded WorkerView
worker_code = code_by (TableId × (ℕ × (WorkerPast × CombinerPast))) (coded× table_id_coded (coded× coded_ℕ (coded× of_lane.the_row.coded of_desk.the_row.coded))) (λ v. (v.slots, (v.worker, (v.lane, v.noted))))
    (λ p. record { slots = p.0; worker = p.1.0; lane = p.1.1.0; noted = p.1.1.1 }) (λ _. refl)

abbrev pub combiner_code : Coded CombinerView
combiner_code = code_by (TableId × (List CombinerPast × List Found)) (coded× table_id_coded (coded× (coded_list of_desk.the_row.coded) (coded_list of_found.the_row.coded))) (λ v. (v.slots, (v.desks, v.looks)))
    (λ p. record { slots = p.0; desks = p.1.0; looks = p.1.1 }) (λ _. refl)

abbrev pub note_code : Coded NoteView
note_code = code_by (TableId × List CombinerPast) (coded× table_id_coded (coded_list of_desk.the_row.coded)) (λ v. (v.slots, v.desks)) (λ p. record { slots = p.0; desks = p.1 }) (λ _. refl)
