-- Each way leads on until it is at its device.
use Rattle.sb_flow.proofs.WayCourses.{all_courses}
use Rattle.sb_flow.proofs.laws.ways_lead_to_their_devices.Goals as goal

pub returns : goal.returns
returns c = record { courses = all_courses }
