use Rattle.std.proofs.Common.{◌≡◌, ◌+◌, ◌≤◌, [], ◌∷◌, ◌++◌, List, length, map, refl, sym, ap, ◌∙◌, subst, arith}
use Rattle.std.specs.List.{All, AllZip}
use Rattle.std.specs.Vec.{with_items}
use Rattle.std.proofs.lemmas.List.{with_items_is, length-map}
use Rattle.cap_fitting.proofs.Fit.{forms_fit}
use Rattle.cap_fitting.proofs.Literals.{literals_fit}
use Rattle.cap_shares.specs.Shares.{Shared}
use Rattle.cap_session.specs.Reports.{IsReport, IsRunReport}
use Rattle.cap_session.specs.Jobs.{CanSit, SatDown, Ran}
use Rattle.cap_session.specs.Shares.{IsSharedOf, fewer_by, rows_of, traces_of, Returns, JoinAll, IsWholeAgain, IsClosedAs}
use Rattle.cap_session.proofs.Concluding.{few-sessions, enough-shares, jobs-can-sit, sessions-may-run, sessions-ran, rows-return, few-joined, all-whole, few-closed, run-report}
use Rattle.cap_session.proofs.Whole.{if-ok}
use Rattle.cap_session.proofs.threads.run_sessions.Goals as goal

pub run_parts-requires-clause-comes : goal.run_parts-requires-clause-comes
run_parts-requires-clause-comes g c κs within =
    let form = c.args.script.now in
    record {
      first = c.at_first-course.ensures;
      form = form;
      is_form = sym c.prelude.ensures.value;
      fits = forms_fit form c.prelude.ensures.sound;
      literals = literals_fit form c.prelude.ensures.sound;
      built = c.requires;
    }

pub overflow_cast-sessions : goal.overflow_cast-sessions
overflow_cast-sessions g c =
    let few = few-sessions c.args.script.now (forms_fit c.args.script.now c.prelude.ensures.sound) (literals_fit c.args.script.now c.prelude.ensures.sound) c.prelude.result.now c.sessions-sessions.result.now c.prelude.ensures.value c.sessions-sessions.ensures
    c.run_parts.new.course c.hand_over.new.course c.hand_over.result c.in_ok-run_parts.ensures c.hand_over.ensures in
    omega (arith, few)

pub overflow_add-sessions : goal.overflow_add-sessions
overflow_add-sessions g c =
    let few = few-sessions c.args.script.now (forms_fit c.args.script.now c.prelude.ensures.sound) (literals_fit c.args.script.now c.prelude.ensures.sound) c.prelude.result.now c.sessions-sessions.result.now c.prelude.ensures.value c.sessions-sessions.ensures
    c.run_parts.new.course c.hand_over.new.course c.hand_over.result c.in_ok-run_parts.ensures c.hand_over.ensures in
    omega (arith, few)

pub make_jobs-requires-clause-few : goal.make_jobs-requires-clause-few
make_jobs-requires-clause-few g c =
    let few = few-sessions c.args.script.now (forms_fit c.args.script.now c.prelude.ensures.sound) (literals_fit c.args.script.now c.prelude.ensures.sound) c.prelude.result.now c.sessions-sessions.result.now c.prelude.ensures.value c.sessions-sessions.ensures
    c.run_parts.new.course c.hand_over.new.course c.hand_over.result c.in_ok-run_parts.ensures c.hand_over.ensures in
    omega (arith, few)

pub make_jobs-requires-clause-shares : goal.make_jobs-requires-clause-shares
make_jobs-requires-clause-shares g c =
    let sessions = c.sessions-sessions.result.now in
    let ks = c.as_mut_slice.result.now in
    let between = c.hand_over.new.course.seats.items in
    let shared : AllZip (IsSharedOf (length sessions + 1)) between ks = subst (AllZip (IsSharedOf (length sessions + 1)) between) (sym c.as_mut_slice.ensures.value) c.in_ok-categories.ensures in
    enough-shares (length sessions) between ks shared

pub seat_all-requires-after_bounds : goal.seat_all-requires-after_bounds
seat_all-requires-after_bounds g c κs within =
    let form = c.args.script.now in
    let fits = forms_fit form c.prelude.ensures.sound in
    let literals = literals_fit form c.prelude.ensures.sound in
    let parts = c.prelude.result.now in
    let sessions = c.sessions-sessions.result.now in
    let ks = c.as_mut_slice.result.now in
    let between = c.hand_over.new.course.seats.items in
    let shared : AllZip (IsSharedOf (length sessions + 1)) between ks = subst (AllZip (IsSharedOf (length sessions + 1)) between) (sym c.as_mut_slice.ensures.value) c.in_ok-categories.ensures in
    let jobs = c.in_ok-jobs.jobs.items in
    let own = c.in_ok-categories.categories in
    let left = c.make_jobs.new.categories in
    let fewer : left ≡ map (fewer_by (length sessions)) ks = c.in_ok-jobs.ensures.rest in
    let many : length left ≡ own.len = omega (arith, ap length fewer, length-map ks (fewer_by (length sessions)), ap length c.as_mut_slice.ensures.value, own.ok.0) in
    let stays : (with_items own left).items ≡ map (fewer_by (length sessions)) ks = with_items_is own left many ∙ fewer in
    let here : c.as_slice.result.now ≡ map (fewer_by (length sessions)) ks = c.as_slice.ensures.value ∙ stays in
    subst (λ (rest : List Shared). All (CanSit rest) jobs) (sym here) (jobs-can-sit form fits literals parts sessions c.prelude.ensures.value c.sessions-sessions.ensures c.run_parts.new.course c.hand_over.new.course c.hand_over.result c.in_ok-run_parts.ensures c.hand_over.ensures (length sessions) refl ks shared jobs c.in_ok-jobs.ensures.jobs)

pub run_jobs-requires-clause-ready : goal.run_jobs-requires-clause-ready
run_jobs-requires-clause-ready g c κs within =
    let form = c.args.script.now in
    let fits = forms_fit form c.prelude.ensures.sound in
    let literals = literals_fit form c.prelude.ensures.sound in
    let parts = c.prelude.result.now in
    let sessions = c.sessions-sessions.result.now in
    let ks = c.as_mut_slice.result.now in
    let between = c.hand_over.new.course.seats.items in
    let shared : AllZip (IsSharedOf (length sessions + 1)) between ks = subst (AllZip (IsSharedOf (length sessions + 1)) between) (sym c.as_mut_slice.ensures.value) c.in_ok-categories.ensures in
    let jobs = c.in_ok-jobs.jobs.items in
    let own = c.in_ok-categories.categories in
    let left = c.make_jobs.new.categories in
    let fewer : left ≡ map (fewer_by (length sessions)) ks = c.in_ok-jobs.ensures.rest in
    let many : length left ≡ own.len = omega (arith, ap length fewer, length-map ks (fewer_by (length sessions)), ap length c.as_mut_slice.ensures.value, own.ok.0) in
    let stays : (with_items own left).items ≡ map (fewer_by (length sessions)) ks = with_items_is own left many ∙ fewer in
    let here : c.as_slice.result.now ≡ map (fewer_by (length sessions)) ks = c.as_slice.ensures.value ∙ stays in
    let seated = c.in_ok-seated.seated.items in
    let sat : AllZip (SatDown (map (fewer_by (length sessions)) ks)) jobs seated = subst (λ (rest : List Shared). AllZip (SatDown rest) jobs seated) here c.in_ok-seated.ensures in
    sessions-may-run form fits literals parts sessions c.prelude.ensures.value c.sessions-sessions.ensures c.run_parts.new.course c.hand_over.new.course c.hand_over.result c.in_ok-run_parts.ensures c.hand_over.ensures (length sessions) refl ks shared jobs c.in_ok-jobs.ensures.jobs seated sat

pub join_all-requires : goal.join_all-requires
join_all-requires g c =
    let form = c.args.script.now in
    let fits = forms_fit form c.prelude.ensures.sound in
    let literals = literals_fit form c.prelude.ensures.sound in
    let parts = c.prelude.result.now in
    let sessions = c.sessions-sessions.result.now in
    let ks = c.as_mut_slice.result.now in
    let between = c.hand_over.new.course.seats.items in
    let shared : AllZip (IsSharedOf (length sessions + 1)) between ks = subst (AllZip (IsSharedOf (length sessions + 1)) between) (sym c.as_mut_slice.ensures.value) c.in_ok-categories.ensures in
    let jobs = c.in_ok-jobs.jobs.items in
    let own = c.in_ok-categories.categories in
    let left = c.make_jobs.new.categories in
    let fewer : left ≡ map (fewer_by (length sessions)) ks = c.in_ok-jobs.ensures.rest in
    let many : length left ≡ own.len = omega (arith, ap length fewer, length-map ks (fewer_by (length sessions)), ap length c.as_mut_slice.ensures.value, own.ok.0) in
    let stays : (with_items own left).items ≡ map (fewer_by (length sessions)) ks = with_items_is own left many ∙ fewer in
    let here : c.as_slice.result.now ≡ map (fewer_by (length sessions)) ks = c.as_slice.ensures.value ∙ stays in
    let seated = c.in_ok-seated.seated.items in
    let sat : AllZip (SatDown (map (fewer_by (length sessions)) ks)) jobs seated = subst (λ (rest : List Shared). AllZip (SatDown rest) jobs seated) here c.in_ok-seated.ensures in
    let ended = c.in_ok-ended.ended.items in
    let did : AllZip (Ran c.hand_over.new.course.standing (map (fewer_by (length sessions)) ks)) jobs ended = sessions-ran form fits literals parts sessions c.prelude.ensures.value c.sessions-sessions.ensures c.run_parts.new.course c.hand_over.new.course c.hand_over.result c.in_ok-run_parts.ensures c.hand_over.ensures (length sessions) refl ks shared jobs c.in_ok-jobs.ensures.jobs seated sat ended c.in_ok-ended.ensures in
    let back : c.as_mut_slice-2.result.now ≡ map (fewer_by (length sessions)) ks = c.as_mut_slice-2.ensures.value ∙ stays in
    subst (λ (rest : List Shared). All (Returns rest) (rows_of ended)) (sym back) (rows-return form fits literals parts sessions c.prelude.ensures.value c.sessions-sessions.ensures c.run_parts.new.course c.hand_over.new.course c.hand_over.result c.in_ok-run_parts.ensures c.hand_over.ensures (length sessions) refl ks shared jobs c.in_ok-jobs.ensures.jobs ended did)

pub close_all-requires-clause-few : goal.close_all-requires-clause-few
close_all-requires-clause-few g c κs within =
    let form = c.args.script.now in
    let fits = forms_fit form c.prelude.ensures.sound in
    let literals = literals_fit form c.prelude.ensures.sound in
    let parts = c.prelude.result.now in
    let sessions = c.sessions-sessions.result.now in
    let ks = c.as_mut_slice.result.now in
    let between = c.hand_over.new.course.seats.items in
    let shared : AllZip (IsSharedOf (length sessions + 1)) between ks = subst (AllZip (IsSharedOf (length sessions + 1)) between) (sym c.as_mut_slice.ensures.value) c.in_ok-categories.ensures in
    let jobs = c.in_ok-jobs.jobs.items in
    let own = c.in_ok-categories.categories in
    let left = c.make_jobs.new.categories in
    let fewer : left ≡ map (fewer_by (length sessions)) ks = c.in_ok-jobs.ensures.rest in
    let many : length left ≡ own.len = omega (arith, ap length fewer, length-map ks (fewer_by (length sessions)), ap length c.as_mut_slice.ensures.value, own.ok.0) in
    let stays : (with_items own left).items ≡ map (fewer_by (length sessions)) ks = with_items_is own left many ∙ fewer in
    let here : c.as_slice.result.now ≡ map (fewer_by (length sessions)) ks = c.as_slice.ensures.value ∙ stays in
    let seated = c.in_ok-seated.seated.items in
    let sat : AllZip (SatDown (map (fewer_by (length sessions)) ks)) jobs seated = subst (λ (rest : List Shared). AllZip (SatDown rest) jobs seated) here c.in_ok-seated.ensures in
    let ended = c.in_ok-ended.ended.items in
    let did : AllZip (Ran c.hand_over.new.course.standing (map (fewer_by (length sessions)) ks)) jobs ended = sessions-ran form fits literals parts sessions c.prelude.ensures.value c.sessions-sessions.ensures c.run_parts.new.course c.hand_over.new.course c.hand_over.result c.in_ok-run_parts.ensures c.hand_over.ensures (length sessions) refl ks shared jobs c.in_ok-jobs.ensures.jobs seated sat ended c.in_ok-ended.ensures in
    let back : c.as_mut_slice-2.result.now ≡ map (fewer_by (length sessions)) ks = c.as_mut_slice-2.ensures.value ∙ stays in
    let ks2 = c.join_all.new.categories in
    let joins : JoinAll (map (fewer_by (length sessions)) ks) (rows_of ended) ks2 = subst (λ (rest : List Shared). JoinAll rest (rows_of ended) ks2) back c.in_ok-traces.ensures.joined in
    let many2 : length ks2 ≡ own.len = omega (arith, joins.0, length-map ks (fewer_by (length sessions)), ap length c.as_mut_slice.ensures.value, own.ok.0) in
    let whole : (with_items (with_items own left) ks2).items ≡ ks2 = with_items_is (with_items own left) ks2 many2 in
    subst (λ (all : List Shared). length all ≤ 256) (sym whole) (few-joined form fits literals parts sessions c.prelude.ensures.value c.sessions-sessions.ensures c.run_parts.new.course c.hand_over.new.course c.hand_over.result c.in_ok-run_parts.ensures c.hand_over.ensures (length sessions) refl ks shared jobs c.in_ok-jobs.ensures.jobs ended did ks2 joins)

pub close_all-requires-clause-whole : goal.close_all-requires-clause-whole
close_all-requires-clause-whole g c κs within =
    let form = c.args.script.now in
    let fits = forms_fit form c.prelude.ensures.sound in
    let literals = literals_fit form c.prelude.ensures.sound in
    let parts = c.prelude.result.now in
    let sessions = c.sessions-sessions.result.now in
    let ks = c.as_mut_slice.result.now in
    let between = c.hand_over.new.course.seats.items in
    let shared : AllZip (IsSharedOf (length sessions + 1)) between ks = subst (AllZip (IsSharedOf (length sessions + 1)) between) (sym c.as_mut_slice.ensures.value) c.in_ok-categories.ensures in
    let jobs = c.in_ok-jobs.jobs.items in
    let own = c.in_ok-categories.categories in
    let left = c.make_jobs.new.categories in
    let fewer : left ≡ map (fewer_by (length sessions)) ks = c.in_ok-jobs.ensures.rest in
    let many : length left ≡ own.len = omega (arith, ap length fewer, length-map ks (fewer_by (length sessions)), ap length c.as_mut_slice.ensures.value, own.ok.0) in
    let stays : (with_items own left).items ≡ map (fewer_by (length sessions)) ks = with_items_is own left many ∙ fewer in
    let here : c.as_slice.result.now ≡ map (fewer_by (length sessions)) ks = c.as_slice.ensures.value ∙ stays in
    let seated = c.in_ok-seated.seated.items in
    let sat : AllZip (SatDown (map (fewer_by (length sessions)) ks)) jobs seated = subst (λ (rest : List Shared). AllZip (SatDown rest) jobs seated) here c.in_ok-seated.ensures in
    let ended = c.in_ok-ended.ended.items in
    let did : AllZip (Ran c.hand_over.new.course.standing (map (fewer_by (length sessions)) ks)) jobs ended = sessions-ran form fits literals parts sessions c.prelude.ensures.value c.sessions-sessions.ensures c.run_parts.new.course c.hand_over.new.course c.hand_over.result c.in_ok-run_parts.ensures c.hand_over.ensures (length sessions) refl ks shared jobs c.in_ok-jobs.ensures.jobs seated sat ended c.in_ok-ended.ensures in
    let back : c.as_mut_slice-2.result.now ≡ map (fewer_by (length sessions)) ks = c.as_mut_slice-2.ensures.value ∙ stays in
    let ks2 = c.join_all.new.categories in
    let joins : JoinAll (map (fewer_by (length sessions)) ks) (rows_of ended) ks2 = subst (λ (rest : List Shared). JoinAll rest (rows_of ended) ks2) back c.in_ok-traces.ensures.joined in
    let many2 : length ks2 ≡ own.len = omega (arith, joins.0, length-map ks (fewer_by (length sessions)), ap length c.as_mut_slice.ensures.value, own.ok.0) in
    let whole : (with_items (with_items own left) ks2).items ≡ ks2 = with_items_is (with_items own left) ks2 many2 in
    subst (λ (all : List Shared). All IsWholeAgain all) (sym whole) (all-whole form fits literals parts sessions c.prelude.ensures.value c.sessions-sessions.ensures c.run_parts.new.course c.hand_over.new.course c.hand_over.result c.in_ok-run_parts.ensures c.hand_over.ensures (length sessions) refl ks shared jobs c.in_ok-jobs.ensures.jobs ended did ks2 joins)

pub report-requires-after_bounds : goal.report-requires-after_bounds
report-requires-after_bounds g c κs within =
    let form = c.args.script.now in
    let fits = forms_fit form c.prelude.ensures.sound in
    let literals = literals_fit form c.prelude.ensures.sound in
    let parts = c.prelude.result.now in
    let sessions = c.sessions-sessions.result.now in
    let ks = c.as_mut_slice.result.now in
    let between = c.hand_over.new.course.seats.items in
    let shared : AllZip (IsSharedOf (length sessions + 1)) between ks = subst (AllZip (IsSharedOf (length sessions + 1)) between) (sym c.as_mut_slice.ensures.value) c.in_ok-categories.ensures in
    let jobs = c.in_ok-jobs.jobs.items in
    let own = c.in_ok-categories.categories in
    let left = c.make_jobs.new.categories in
    let fewer : left ≡ map (fewer_by (length sessions)) ks = c.in_ok-jobs.ensures.rest in
    let many : length left ≡ own.len = omega (arith, ap length fewer, length-map ks (fewer_by (length sessions)), ap length c.as_mut_slice.ensures.value, own.ok.0) in
    let stays : (with_items own left).items ≡ map (fewer_by (length sessions)) ks = with_items_is own left many ∙ fewer in
    let here : c.as_slice.result.now ≡ map (fewer_by (length sessions)) ks = c.as_slice.ensures.value ∙ stays in
    let seated = c.in_ok-seated.seated.items in
    let sat : AllZip (SatDown (map (fewer_by (length sessions)) ks)) jobs seated = subst (λ (rest : List Shared). AllZip (SatDown rest) jobs seated) here c.in_ok-seated.ensures in
    let ended = c.in_ok-ended.ended.items in
    let did : AllZip (Ran c.hand_over.new.course.standing (map (fewer_by (length sessions)) ks)) jobs ended = sessions-ran form fits literals parts sessions c.prelude.ensures.value c.sessions-sessions.ensures c.run_parts.new.course c.hand_over.new.course c.hand_over.result c.in_ok-run_parts.ensures c.hand_over.ensures (length sessions) refl ks shared jobs c.in_ok-jobs.ensures.jobs seated sat ended c.in_ok-ended.ensures in
    let back : c.as_mut_slice-2.result.now ≡ map (fewer_by (length sessions)) ks = c.as_mut_slice-2.ensures.value ∙ stays in
    let ks2 = c.join_all.new.categories in
    let joins : JoinAll (map (fewer_by (length sessions)) ks) (rows_of ended) ks2 = subst (λ (rest : List Shared). JoinAll rest (rows_of ended) ks2) back c.in_ok-traces.ensures.joined in
    let many2 : length ks2 ≡ own.len = omega (arith, joins.0, length-map ks (fewer_by (length sessions)), ap length c.as_mut_slice.ensures.value, own.ok.0) in
    let whole : (with_items (with_items own left) ks2).items ≡ ks2 = with_items_is (with_items own left) ks2 many2 in
    let zs = c.in_ok-seats.seats.items in
    let closed : AllZip IsClosedAs ks2 zs = subst (λ (all : List Shared). AllZip IsClosedAs all zs) whole c.in_ok-seats.ensures in
    few-closed form fits literals parts sessions c.prelude.ensures.value c.sessions-sessions.ensures c.run_parts.new.course c.hand_over.new.course c.hand_over.result c.in_ok-run_parts.ensures c.hand_over.ensures (length sessions) refl ks shared jobs c.in_ok-jobs.ensures.jobs ended did ks2 joins zs closed

pub returns : goal.returns
returns g c =
    let form = c.args.script.now in
    let fits = forms_fit form c.prelude.ensures.sound in
    let literals = literals_fit form c.prelude.ensures.sound in
    let parts = c.prelude.result.now in
    let sessions = c.sessions-sessions.result.now in
    let ks = c.as_mut_slice.result.now in
    let between = c.hand_over.new.course.seats.items in
    let shared : AllZip (IsSharedOf (length sessions + 1)) between ks = subst (AllZip (IsSharedOf (length sessions + 1)) between) (sym c.as_mut_slice.ensures.value) c.in_ok-categories.ensures in
    let jobs = c.in_ok-jobs.jobs.items in
    let own = c.in_ok-categories.categories in
    let left = c.make_jobs.new.categories in
    let fewer : left ≡ map (fewer_by (length sessions)) ks = c.in_ok-jobs.ensures.rest in
    let many : length left ≡ own.len = omega (arith, ap length fewer, length-map ks (fewer_by (length sessions)), ap length c.as_mut_slice.ensures.value, own.ok.0) in
    let stays : (with_items own left).items ≡ map (fewer_by (length sessions)) ks = with_items_is own left many ∙ fewer in
    let here : c.as_slice.result.now ≡ map (fewer_by (length sessions)) ks = c.as_slice.ensures.value ∙ stays in
    let seated = c.in_ok-seated.seated.items in
    let sat : AllZip (SatDown (map (fewer_by (length sessions)) ks)) jobs seated = subst (λ (rest : List Shared). AllZip (SatDown rest) jobs seated) here c.in_ok-seated.ensures in
    let ended = c.in_ok-ended.ended.items in
    let did : AllZip (Ran c.hand_over.new.course.standing (map (fewer_by (length sessions)) ks)) jobs ended = sessions-ran form fits literals parts sessions c.prelude.ensures.value c.sessions-sessions.ensures c.run_parts.new.course c.hand_over.new.course c.hand_over.result c.in_ok-run_parts.ensures c.hand_over.ensures (length sessions) refl ks shared jobs c.in_ok-jobs.ensures.jobs seated sat ended c.in_ok-ended.ensures in
    let back : c.as_mut_slice-2.result.now ≡ map (fewer_by (length sessions)) ks = c.as_mut_slice-2.ensures.value ∙ stays in
    let ks2 = c.join_all.new.categories in
    let joins : JoinAll (map (fewer_by (length sessions)) ks) (rows_of ended) ks2 = subst (λ (rest : List Shared). JoinAll rest (rows_of ended) ks2) back c.in_ok-traces.ensures.joined in
    let many2 : length ks2 ≡ own.len = omega (arith, joins.0, length-map ks (fewer_by (length sessions)), ap length c.as_mut_slice.ensures.value, own.ok.0) in
    let whole : (with_items (with_items own left) ks2).items ≡ ks2 = with_items_is (with_items own left) ks2 many2 in
    let zs = c.in_ok-seats.seats.items in
    let closed : AllZip IsClosedAs ks2 zs = subst (λ (all : List Shared). AllZip IsClosedAs all zs) whole c.in_ok-seats.ensures in
    let prelude = c.hand_over.result in
    let traces = c.in_ok-traces.traces.items in
    let alone : c.push.new.self.items ≡ prelude ∷ [] = c.in_ok-push.ensures.items ∙ ap (λ l. l ++ prelude ∷ []) c.new-traces.ensures.items in
    let all : traces ≡ prelude ∷ traces_of ended = c.in_ok-traces.ensures.traces ∙ ap (λ l. l ++ traces_of ended) alone in
    if-ok (IsReport zs traces) (IsRunReport form) (run-report form fits literals parts sessions c.prelude.ensures.value c.sessions-sessions.ensures c.run_parts.new.course c.hand_over.new.course c.hand_over.result c.in_ok-run_parts.ensures c.hand_over.ensures (length sessions) refl ks shared jobs c.in_ok-jobs.ensures.jobs ended did ks2 joins zs closed traces all) c.report.result c.report.ensures
